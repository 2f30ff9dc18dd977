-- The letter behind the digits, and which tokens it changes. RULES 2.5: an o, O, h or H directly behind the run is looked at first, and
-- the run then stays whole. The rule itself is `in_base`, in Tokens.
use Rattle.std.specs.Prelude.{◌≡◌, Bool, true, false, not, ◌&&◌, List, [], ◌∷◌, ℕ, suc, pred, take, get_or}
use Rattle.lexer.specs.Text.{is, any_of, is_digit, is_hex_digit, is_word_part, run, last}
use Rattle.lexer.specs.Tokens.{stray, digits, suffix_behind, suffix_last, token_with, token_at}
use Rattle.lexer.specs.declared.TokenRead.{TokenRead}

-- Bytes begin with a number that has no prefix: neither `0b` nor `0o`, `0d`, `0x`.
unfoldable pub begins_run : List ℕ → Bool
begins_run [] = false
begins_run (c ∷ cs) = is_digit c && not (is "0" c && any_of "bodx" (get_or cs 0 0))

-- The run of hexadecimal digits with which bytes begin, and the character behind it.
unfoldable pub digit_run : List ℕ → List ℕ
digit_run s = take (run is_hex_digit s) s

unfoldable pub behind_run : List ℕ → ℕ
behind_run s = get_or s (run is_hex_digit s) 0

-- Such a number's run ends in b, B, d or D, and an o, O, h or H follows it directly.
unfoldable pub letter_follows : List ℕ → Bool
letter_follows s = begins_run s && (any_of "bBdD" (last (digit_run s)) && any_of "oOhH" (behind_run s))

-- The token with the base rules' order (RULES 14.2), which is the original's: the run's last character is looked at before the letter behind it. All else
-- is as in `token_at`. Nothing is read so; it is here to be compared with.
unfoldable pub last_first : ℕ → List ℕ → TokenRead
last_first c cs =
    let s : List ℕ = c ∷ cs in
    let n : ℕ = run is_hex_digit s in
    suffix_last c n (digit_run s) (take (pred n) s) (suffix_behind c n (digit_run s) (behind_run s) (digits c 10 (digit_run s) n))

unfoldable pub last_first_token : List ℕ → TokenRead
last_first_token s = token_with is_word_part last_first s

-- THE TOKENS THAT CHANGE are the numbers whose run ends in b, B, d or D with such a letter behind it. One of them that is as it was is Invalid by
-- both orders, and with o or O each is Invalid now. Of every run without a prefix the letter behind it takes the whole run, and is the token's last
-- byte; where the digits don't fit, the token is Invalid.
pub record LetterFirst : Type 0 where
  pub others : (s : List ℕ) → letter_follows s ≡ false → token_at s ≡ last_first_token s
  pub changed : (s : List ℕ) → letter_follows s ≡ true → token_at s ≡ last_first_token s → token_at s ≡ stray (get_or s 0 0)
  pub no_octal : (s : List ℕ) → letter_follows s ≡ true → any_of "oO" (behind_run s) ≡ true → token_at s ≡ stray (get_or s 0 0)
  pub octal : (s : List ℕ) → begins_run s ≡ true → any_of "oO" (behind_run s) ≡ true
      → token_at s ≡ digits (get_or s 0 0) 8 (digit_run s) (suc (run is_hex_digit s))
  pub hexadecimal : (s : List ℕ) → begins_run s ≡ true → any_of "hH" (behind_run s) ≡ true
      → token_at s ≡ digits (get_or s 0 0) 16 (digit_run s) (suc (run is_hex_digit s))

unfoldable pub open_letters : Unit {0}
unfolding begins_run digit_run behind_run letter_follows last_first last_first_token
open_letters = tt

-- Kinds of tokens: what passes a test that a line end fails is no line end; a name's text and what it names.
use mathlib.Core.Path.{◌≡◌, refl}
use mathlib.Core.Bool.{true, false, true≢false, false≢true}
use mathlib.Core.List.{List}
use mathlib.Core.Option.{Option, none, some}
use Prim.Native.Nat.{ℕ}
use Prim.Native.Char.{Char}
use Prim.Native.String.{String}
use Rattle.lexer.specs.Text.{maybe}
use Rattle.rules.specs.Lexemes.{Kind, word, number, quoted, mark, newline, blank, comment, invalid, end, bad, text_of, name_in, operation_in}
use Rattle.rules.specs.Reader.{is_mark, is_line_end}
use Rattle.rules.specs.Expressions.{operator_of}
use Rattle.rules.specs.Operands.{is_word}

inside : (T : Kind → Type 0) → (T newline → ⊥) → (T end → ⊥) → (k : Kind) → T k → is_line_end k ≡ false
unfolding is_line_end
inside T a b (mark c) h = refl
inside T a b (word w) h = refl
inside T a b (number v) h = refl
inside T a b (quoted s w) h = refl
inside T a b newline h = absurd (a h)
inside T a b blank h = refl
inside T a b comment h = refl
inside T a b invalid h = refl
inside T a b end h = absurd (b h)
inside T a b (bad n) h = refl

pub mark_inside : (a : Char) (k : Kind) → is_mark a k ≡ true → is_line_end k ≡ false
unfolding is_mark
mark_inside a = inside (λ (k : Kind). is_mark a k ≡ true) (λ h. false≢true h) (λ h. false≢true h)

pub operator_inside : (k : Kind) (op : ℕ) → operator_of k ≡ some op → is_line_end k ≡ false
unfolding operator_of is_mark
operator_inside k op h = inside (λ (k : Kind). operator_of k ≡ some op) (λ h. true≢false cc) (λ h. true≢false cc) k h

pub word_inside : (k : Kind) → is_word k ≡ true → is_line_end k ≡ false
unfolding is_word text_of
word_inside = inside (λ (k : Kind). is_word k ≡ true) (λ h. false≢true h) (λ h. false≢true h)

pub name_inside : (names : List String) (k : Kind) (n : ℕ) → name_in names k ≡ some n → is_line_end k ≡ false
unfolding name_in text_of
name_inside names k n h = inside (λ (k : Kind). name_in names k ≡ some n) (λ h. true≢false cc) (λ h. true≢false cc) k h

pub operation_inside : (table : List ℕ) (k : Kind) (n : ℕ) → operation_in table k ≡ some n → is_line_end k ≡ false
unfolding operation_in text_of
operation_inside table k n h = inside (λ (k : Kind). operation_in table k ≡ some n) (λ h. true≢false cc) (λ h. true≢false cc) k h

-- Only a word has a text.
pub text_word : (k : Kind) (w : List ℕ) → text_of k ≡ some w → k ≡ word w
unfolding text_of
text_word (word v) w h = cc
text_word (number v) w h = absurd (true≢false cc)
text_word (quoted b v) w h = absurd (true≢false cc)
text_word (mark c) w h = absurd (true≢false cc)
text_word newline w h = absurd (true≢false cc)
text_word blank w h = absurd (true≢false cc)
text_word comment w h = absurd (true≢false cc)
text_word invalid w h = absurd (true≢false cc)
text_word end w h = absurd (true≢false cc)
text_word (bad b) w h = absurd (true≢false cc)

-- What is asked of a token's text is answered for a name.
pub asked : (k : Kind) (ask : List ℕ → Option ℕ) (r : ℕ) → maybe (text_of k) none ask ≡ some r → (w : List ℕ) × (k ≡ word w) × (ask w ≡ some r)
asked k ask r = go (text_of k) refl
  where
    go : (o : Option (List ℕ)) → text_of k ≡ o → maybe o none ask ≡ some r → (w : List ℕ) × (k ≡ word w) × (ask w ≡ some r)
    go none e h = absurd (true≢false cc)
    go (some w) e h = (w, text_word k w e, h)

-- Samples of the patch and of the statement read, computed: what RULES 11.2 says of the refusals' order (RULES 9.3, 10.7), and small edits.
use mathlib.Core.Path.{◌≡◌, refl}
use mathlib.Core.Bool.{true, false}
use mathlib.Core.List.{List, [], ◌∷◌, ◌++◌}
use Prim.Native.Nat.{ℕ, zero, suc}
use Prim.Native.String.{String}
use Rattle.lexer.specs.Text.{bytes}
use Rattle.names.specs.Table.{operations, spellings, row, rows_of}
use Rattle.rules.specs.Statements.{present}
use Rattle.rules.specs.Records.{Record, ST, VC, LL, LI, LD, LC, LT, listing}
use Rattle.rules.specs.Reader.{at, nowhere}
use Rattle.rules.specs.Calls.{Result, gives, refuses, Found, nothing, found, statement_call}
use Rattle.rules.specs.Patch.{Edit, leaves_open, patch, open_patch}

-- A patch of a source with its listing's records, at a place, with a new text, and with two buffers of one length.
pub record Case : Type 0 where
  pub old : String
  pub records : List Record
  pub place : ℕ
  pub new : String
  pub rooms : ℕ
  pub answer : Result Edit

unfoldable pub case : String → List Record → ℕ → String → ℕ → Result Edit → Case
case o rs a n r x = record { old = o; records = rs; place = a; new = n; rooms = r; answer = x }

unfoldable pub become : String → List Record → Result Edit
become s rs = gives (record { source = bytes s; records = rs })

unfoldable pub cases : List Case
cases =
    -- the reader is cut off behind the new line's line feed
    case "a\n12b" (ST 0 ∷ LL 0 1 ∷ []) 0 "in" 1000 (become "in\n12b" (ST 0 ∷ LI 0 2 4 0 2 2 ∷ []))
    -- statements below, in and behind the line
    ∷ case "a\nb:c\nd" (ST 0 ∷ LL 0 1 ∷ ST 2 ∷ LL 2 3 ∷ ST 4 ∷ LL 4 5 ∷ ST 6 ∷ LL 6 7 ∷ []) 2 "equ 1" 1000
    (become "a\nequ 1\nd" (ST 0 ∷ LL 0 1 ∷ ST 2 ∷ VC 6 7 1 ∷ LC 2 7 ∷ ST 8 ∷ LL 8 9 ∷ []))
    -- any well-formed listing
    ∷ case "a\nbbbb" (ST 0 ∷ LL 0 6 ∷ []) 2 "" 1000 (become "a\n" (ST 0 ∷ LL 0 6 ∷ []))
    -- 40 comes before the reading; a line above counts past blank lines and comments
    ∷ case "times 2\nb" (ST 0 ∷ VC 6 7 2 ∷ LL 8 9 ∷ LT ∷ []) 8 "equ *" 1000 (refuses (nowhere 40))
    ∷ case "times 2\n;c\n b" [] 11 "b" 1000 (refuses (nowhere 40))
    ∷ case ";times 2\nb" (ST 9 ∷ LL 9 10 ∷ []) 9 "c" 1000 (become ";times 2\nc" (ST 9 ∷ LL 9 10 ∷ []))
    ∷ case "b" (ST 0 ∷ LL 0 1 ∷ []) 0 "times 1 times 1 times 1 times 1 times 1 times 1 times 1 times 1 times 1 times 1 times 1 times 1 times 1 times 1 times 1 times 1" 1000 (refuses (nowhere 40))
    ∷ case "b" (ST 0 ∷ LL 0 1 ∷ []) 0 "times 1 times 1 times 1 times 1 times 1 times 1 times 1 times 1 times 1 times 1 times 1 times 1 times 1 times 1 times 1 times 1 times 1" 1000 (refuses (at 5 128 133))
    -- a name with a dot is the whole count of a `times`
    ∷ case "times a.b\nb" [] 10 "c" 1000 (refuses (nowhere 40))
    ∷ case "w12 equ 5\n" (ST 0 ∷ LL 0 3 ∷ ST 4 ∷ VC 8 9 5 ∷ LC 4 9 ∷ []) 0 "w12.a equ 5" 1000 (become "w12.a equ 5\n" (ST 0 ∷ LL 0 5 ∷ ST 6 ∷ VC 10 11 5 ∷ LC 6 11 ∷ []))
    -- the letter behind the digits takes the whole run, also of a count
    ∷ case "dw 1\n" (ST 0 ∷ LD 0 4 (1 ∷ 0 ∷ []) ∷ []) 0 "dw 0abh" 1000 (become "dw 0abh\n" (ST 0 ∷ LD 0 7 (171 ∷ 0 ∷ []) ∷ []))
    ∷ case "times 10bh\nb" [] 11 "c" 1000 (refuses (nowhere 40))
    -- A line is read alone by the full read, which refuses it with 2 before it looks for a content: it leaves no `times` open. 2 itself is
    -- about the edited source.
    ∷ case "times 2;\u{80}" [] 0 "" 1000 (become "" [])
    ∷ case "nop" (ST 0 ∷ LI 0 3 97 0 3 3 ∷ []) 0 "times 1;\u{80}" 1000 (refuses (at 2 8 9))
    -- the other refusals, in order
    ∷ case "ab" [] 1 "c" 1000 (refuses (nowhere 42))
    ∷ case "ab\n" [] 3 "c\nd" 1000 (refuses (nowhere 43))
    ∷ case "ab" (ST 0 ∷ []) 0 "c" 1000 (refuses (nowhere 41))
    ∷ case "ab" (ST 0 ∷ LL 0 3 ∷ []) 0 "c" 1000 (refuses (nowhere 41))
    ∷ case "ab\n" (ST 0 ∷ LL 0 2 ∷ []) 3 "c *" 1000 (refuses (at 20 5 6))
    ∷ case "ab\n" (ST 0 ∷ LL 0 2 ∷ []) 3 "c" 3 (refuses (nowhere 6))
    ∷ case "ab\n" (ST 0 ∷ LL 0 2 ∷ []) 3 "c" 4 (refuses (nowhere 4))
    ∷ []

unfoldable pub Patches : List Case → Type 0
Patches [] = Unit {0}
Patches (c ∷ cs) = (patch present (bytes c.old) (listing c.records) c.place (bytes c.new) c.rooms c.rooms ≡ c.answer) × Patches cs

pub patches : Patches cases
unfolding open_patch spellings row rows_of operations case become cases Patches
patches = (refl, (refl, (refl, (refl, (refl, (refl, (refl, (refl, (refl, (refl, (refl, (refl, (refl, (refl, (refl, (refl, (refl, (refl, (refl, (refl, (refl, tt)))))))))))))))))))))

-- A line that is too long, in the place of `nop`: it is 1, as the full read of the edited source is.
unfoldable pub blanks : ℕ → List ℕ
blanks zero = []
blanks (suc n) = 32 ∷ blanks n

pub too_long_lem : patch present (bytes "nop") (listing (ST 0 ∷ LI 0 3 97 0 3 3 ∷ [])) 0 (bytes "times 1" ++ blanks 65530) 1000 1000 ≡ refuses (nowhere 1)
unfolding open_patch blanks
too_long_lem = refl

-- Which lines leave a `times` open: none that the full read refuses with another number.
pub open_alone : (leaves_open present (bytes "times 1") ≡ true) × (leaves_open present (bytes "times 1;\u{80}") ≡ false) × (leaves_open present (bytes "times 1" ++ blanks 65530) ≡ false)
unfolding open_patch blanks spellings row rows_of operations
open_alone = (refl, refl, refl)

-- A statement read of a source at a place, with a buffer of 1000 bytes.
pub record Read : Type 0 where
  pub source : String
  pub place : ℕ
  pub answer : Result Found

unfoldable pub reads : List Read
reads =
    record { source = "a: b"; place = 2; answer = gives (found (ST 3 ∷ LL 3 4 ∷ []) 4) }
    ∷ record { source = "nop\n12b"; place = 0; answer = refuses (at 30 4 7) }
    ∷ record { source = " ;x\n "; place = 0; answer = gives nothing }
    ∷ record { source = "a"; place = 2; answer = refuses (nowhere 42) }
    ∷ []

unfoldable pub Statements : List Read → Type 0
Statements [] = Unit {0}
Statements (r ∷ rs) = (statement_call present (bytes r.source) r.place 1000 ≡ r.answer) × Statements rs

pub statements : Statements reads
unfolding open_patch spellings row rows_of operations reads Statements
statements = (refl, (refl, (refl, (refl, tt))))

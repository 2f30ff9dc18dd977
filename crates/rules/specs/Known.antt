-- Samples of the rules, RULES 15: K1 to K12 in one table with one claim; and the
-- further ones.
use Rattle.std.specs.Prelude.{◌≡◌, refl, Bool, true, false, List, [], ◌∷◌, ℕ, ℤ, pos, negsuc}
use Prim.Native.String.{String}
use Rattle.lexer.specs.Text.{bytes}
use Rattle.lexer.specs.Dots.{plain_token, open_dots}
use Rattle.lexer.specs.Letters.{last_first_token, open_letters}
use Rattle.lexer.specs.Original.{original_token, changes, open_original}
use Rattle.lexer.specs.declared.LiteralKind.TheVariants.{Number}
use Rattle.lexer.specs.declared.Token.TheVariants.{Literal}
use Rattle.lexer.specs.declared.TokenRead.{TokenRead}
use Rattle.names.specs.Table.{operations, spellings, row, rows_of}
use Rattle.rules.specs.Statements.{present}
use Rattle.rules.specs.Records.{Record, ST, VC, VL, VS, PF, IN, OR, OI, OF, OD, OX, LL, LI, LD, LC, LT}
use Rattle.rules.specs.Reader.{at, nowhere, encoding}
use Rattle.rules.specs.Calls.{Result, gives, refuses, full_read, enough, found, token_call, statement_call, open_calls}
use Rattle.rules.specs.ByRule.{token_by, statement_by, full_by, somewhere}
use Rattle.rules.specs.Evaluate.{evaluate, open_evaluate}

pub record Sample : Type 0 where
  pub source : String
  pub answer : Result (List Record)

infix 80 ◌reads◌
abbrev pub ◌reads◌ : String → Result (List Record) → Sample
s reads o = record { source = s; answer = o }

-- A source, and what the full read makes of it.
unfoldable pub samples : List Sample
samples =
    "mov ax,[bx+4]" reads gives (ST 0 ∷ OR 4 6 8 ∷ VC 11 12 4 ∷ PF 10 12 0 ∷ OX 7 13 7 1 0 0 ∷ LI 0 13 0 2 4 13 ∷ [])
    ∷ "equ -1+2*3" reads gives (ST 0 ∷ VC 5 6 1 ∷ PF 4 6 1 ∷ VC 7 8 2 ∷ VC 9 10 3 ∷ IN 7 10 2 ∷ IN 4 10 0 ∷ LC 0 10 ∷ [])
    ∷ "equ 8/4/2" reads gives (ST 0 ∷ VC 4 5 8 ∷ VC 6 7 4 ∷ IN 4 7 3 ∷ VC 8 9 2 ∷ IN 4 9 3 ∷ LC 0 9 ∷ [])
    ∷ "equ $$" reads gives (ST 0 ∷ VS 4 5 ∷ LC 0 6 ∷ [])
    ∷ "dw 70000" reads refuses (at 60 3 8)
    ∷ "db ,," reads refuses (at 23 0 2)
    ∷ "jmp 1:2" reads gives (ST 0 ∷ VC 4 5 1 ∷ VC 6 7 2 ∷ OF 4 7 ∷ LI 0 7 59 1 4 7 ∷ [])
    ∷ "mov [ ax],bx" reads refuses (encoding 6 5 8 255)
    ∷ "mov ax,[si+di]" reads refuses (at 33 8 13)
    ∷ "dw 0abh" reads gives (ST 0 ∷ LD 0 7 (171 ∷ 0 ∷ []) ∷ [])
    ∷ "dw 10bh" reads gives (ST 0 ∷ LD 0 7 (11 ∷ 1 ∷ []) ∷ [])
    ∷ "equ *5" reads refuses (nowhere 22)
    ∷ []

unfoldable pub read : Sample → Result (List Record)
read k = full_read present (bytes k.source) (enough (bytes k.source))

unfoldable pub wanted : Sample → Result (List Record)
wanted k = k.answer

-- Every row's source is read as the row says.
unfoldable pub Agree : List Sample → Type 0
Agree [] = Unit {0}
Agree (k ∷ ks) = (read k ≡ wanted k) × Agree ks

pub known : Agree samples
unfolding open_calls spellings row rows_of operations samples read wanted Agree
known = (refl, (refl, (refl, (refl, (refl, (refl, (refl, (refl, (refl, (refl, (refl, (refl, tt))))))))))))

-- the samples of RULES 15.2 and 15.6, and rules that no K has
unfoldable pub more : List Sample
more =
    "" reads gives []
    ∷ "equ 0x7fffffff" reads gives (ST 0 ∷ VC 4 14 2147483647 ∷ LC 0 14 ∷ [])
    ∷ "equ 0x80000000" reads refuses (at 31 4 14)
    ∷ "equ 2147483648" reads refuses (at 21 4 5)
    ∷ "k equ 2\n" reads gives (ST 0 ∷ LL 0 1 ∷ ST 2 ∷ VC 6 7 2 ∷ LC 2 7 ∷ [])
    ∷ "equ (((((((((((((((((((((((((((((((1)))))))))))))))))))))))))))))))" reads gives (ST 0 ∷ VC 35 36 1 ∷ LC 0 67 ∷ [])
    ∷ "equ ((((((((((((((((((((((((((((((((1))))))))))))))))))))))))))))))))" reads refuses (at 3 36 37)
    ∷ "times 2\n\n times 3 db 'ab',1 ; x\nx: mov word byte [es:bp+di-4], 'c'\n" reads gives (
    ST 0 ∷ VC 6 7 2 ∷ VC 16 17 3 ∷ LD 18 27 (97 ∷ 98 ∷ 1 ∷ []) ∷ LT ∷ LT ∷ ST 32 ∷ LL 32 33
    ∷ ST 35 ∷ VC 59 60 4 ∷ PF 58 60 1 ∷ OX 49 61 3 1 1 1 ∷ VC 63 66 99 ∷ OI 63 66 ∷ LI 35 66 0 2 39 66 ∷ [])
    ∷ "times 2\n" reads refuses (at 34 0 5)
    ∷ "mov [es:],1" reads refuses (at 32 4 9)
    ∷ "mov ax bx" reads refuses (at 11 7 9)
    ∷ "times 2 ;c" reads refuses (at 34 0 5)
    ∷ "times times+5" reads refuses (at 34 0 5)
    ∷ "times 2\n;c\n \n" reads refuses (at 34 0 5)
    ∷ []

pub more_known : Agree more
unfolding open_calls spellings row rows_of operations more read wanted Agree
more_known = (refl, (refl, (refl, (refl, (refl, (refl, (refl, (refl, (refl, (refl, (refl, (refl, (refl, (refl, tt))))))))))))))

-- ends of lines and of sources
unfoldable pub ends : List Sample
ends =
    "mov" reads gives (ST 0 ∷ LI 0 3 0 0 3 3 ∷ [])
    ∷ "equ" reads refuses (at 21 3 3)
    ∷ "equ\n" reads refuses (at 21 3 4)
    ∷ "equ 1 2" reads refuses (at 10 6 7)
    ∷ "nop\n12b" reads refuses (at 30 4 7)
    ∷ "\n\n12b" reads refuses (at 30 2 5)
    ∷ " \n;x\n" reads gives []
    ∷ "rep movsb\nJNAE x\n" reads gives (
    ST 0 ∷ LI 0 3 46 0 3 3 ∷ ST 4 ∷ LI 4 9 48 0 9 9 ∷ ST 10 ∷ VL 15 16 ∷ OI 15 16 ∷ LI 10 16 64 1 15 16 ∷ [])
    ∷ []

pub ends_known : Agree ends
unfolding open_calls spellings row rows_of operations ends read wanted Agree
ends_known = (refl, (refl, (refl, (refl, (refl, (refl, (refl, (refl, tt))))))))

-- Numbers in data lines, RULES 15.5: the largest that fit and the first that don't (60), however they are written; 60 against what
-- stands before the number and behind it; and numbers that are no data.
unfoldable pub counts : List Sample
counts =
    "db 255" reads gives (ST 0 ∷ LD 0 6 (255 ∷ []) ∷ [])
    ∷ "dw 65535" reads gives (ST 0 ∷ LD 0 8 (255 ∷ 255 ∷ []) ∷ [])
    ∷ "db 256" reads refuses (at 60 3 6)
    ∷ "dw 65536" reads refuses (at 60 3 8)
    ∷ "DB 0x100" reads refuses (at 60 3 8)
    ∷ "a: db 1,'x',100h" reads refuses (at 60 12 16)
    ∷ "times 2 db 256" reads refuses (at 60 11 14)
    ∷ "db 256,12b" reads refuses (at 60 3 6)
    ∷ "db 256 0x80000000" reads refuses (at 60 3 6)
    ∷ "db 256 'x" reads refuses (at 60 3 6)
    ∷ "db 1,12b,256" reads refuses (at 30 5 8)
    ∷ "db 0x80000000" reads refuses (at 31 3 13)
    ∷ "db 2147483648" reads refuses (at 15 3 4)
    ∷ "db 'x,256" reads refuses (at 26 3 9)
    ∷ "db '',256" reads refuses (at 60 6 9)
    ∷ "equ 70000" reads gives (ST 0 ∷ VC 4 9 70000 ∷ LC 0 9 ∷ [])
    ∷ "times 70000 in db,256" reads gives (
    ST 0 ∷ VC 6 11 70000 ∷ VL 15 17 ∷ OI 15 17 ∷ VC 18 21 256 ∷ OI 18 21 ∷ LI 12 21 4 2 15 21 ∷ LT ∷ [])
    ∷ []

pub counts_known : Agree counts
unfolding open_calls spellings row rows_of operations counts read wanted Agree
counts_known = (refl, (refl, (refl, (refl, (refl, (refl, (refl, (refl, (refl, (refl, (refl, (refl, (refl, (refl, (refl, (refl, (refl, tt)))))))))))))))))

-- Names with dots as labels, RULES 15.3.
unfoldable pub dots : List Sample
dots =
    "w12.a equ 5" reads gives (ST 0 ∷ LL 0 5 ∷ ST 6 ∷ VC 10 11 5 ∷ LC 6 11 ∷ [])
    ∷ "a." reads gives (ST 0 ∷ LL 0 2 ∷ [])
    ∷ "a..b" reads gives (ST 0 ∷ LL 0 4 ∷ [])
    ∷ "a.b:" reads gives (ST 0 ∷ LL 0 3 ∷ [])
    ∷ "a.:" reads gives (ST 0 ∷ LL 0 2 ∷ [])
    ∷ "a.5h" reads gives (ST 0 ∷ LL 0 4 ∷ [])
    ∷ "a. b" reads gives (ST 0 ∷ LL 0 2 ∷ ST 3 ∷ LL 3 4 ∷ [])
    -- a dot behind anything else starts a token
    ∷ ".a" reads refuses (at 20 0 1)
    ∷ "a .b" reads refuses (at 20 2 3)
    ∷ "1.a" reads refuses (at 20 0 1)
    ∷ "db 1.a" reads refuses (at 15 4 5)
    ∷ "equ $.a" reads refuses (at 10 5 6)
    ∷ []

pub dots_known : Agree dots
unfolding open_calls spellings row rows_of operations dots read wanted Agree
dots_known = (refl, (refl, (refl, (refl, (refl, (refl, (refl, (refl, (refl, (refl, (refl, (refl, tt))))))))))))

-- Lookup is of the whole name, in operands, expressions and statements.
unfoldable pub dotted : List Sample
dotted =
    "in ax.b" reads gives (ST 0 ∷ VL 3 7 ∷ OI 3 7 ∷ LI 0 7 4 1 3 7 ∷ [])
    ∷ "in byte." reads gives (ST 0 ∷ VL 3 8 ∷ OI 3 8 ∷ LI 0 8 4 1 3 8 ∷ [])
    ∷ "in [bx.a]" reads gives (ST 0 ∷ VL 4 8 ∷ OD 3 9 0 0 ∷ LI 0 9 4 1 3 9 ∷ [])
    ∷ "in [es.x:1]" reads refuses (at 13 8 9)
    ∷ "in [.a]" reads refuses (at 24 4 5)
    ∷ "mov.x ax" reads gives (ST 0 ∷ LL 0 5 ∷ ST 6 ∷ LL 6 8 ∷ [])
    ∷ "k equ.5" reads gives (ST 0 ∷ LL 0 1 ∷ ST 2 ∷ LL 2 7 ∷ [])
    -- in expressions, and behind a number
    ∷ "equ 2*w.1-w." reads gives (ST 0 ∷ VC 4 5 2 ∷ VL 6 9 ∷ IN 4 9 2 ∷ VL 10 12 ∷ IN 4 12 1 ∷ LC 0 12 ∷ [])
    ∷ "times a.b" reads refuses (at 34 0 5)
    ∷ "times 0b.1" reads gives (ST 0 ∷ VC 6 7 0 ∷ LL 7 10 ∷ LT ∷ [])
    ∷ "times 10b.x" reads refuses (at 20 9 10)
    ∷ "times 1bh.x" reads refuses (at 20 9 10)
    ∷ []

pub dotted_known : Agree dotted
unfolding open_calls spellings row rows_of operations dotted read wanted Agree
dotted_known = (refl, (refl, (refl, (refl, (refl, (refl, (refl, (refl, (refl, (refl, (refl, (refl, tt))))))))))))

-- What some of these sources got before.
unfoldable pub before : List Sample
before =
    "w12.a equ 5" reads refuses (at 20 3 4)
    ∷ "a. b" reads refuses (at 20 1 2)
    ∷ "in ax.b" reads refuses (at 11 5 6)
    ∷ "in [bx.a]" reads refuses (at 21 6 7)
    ∷ "mov.x ax" reads refuses (at 21 3 4)
    ∷ "k equ.5" reads refuses (at 21 5 6)
    ∷ "times a.b" reads refuses (at 20 7 8)
    ∷ "equ *a.b" reads refuses (nowhere 22)
    ∷ []

unfoldable pub AgreeBy : (List ℕ → TokenRead) → List Sample → Type 0
AgreeBy rule [] = Unit {0}
AgreeBy rule (k ∷ ks) = (full_by rule present (bytes k.source) (enough (bytes k.source)) ≡ wanted k) × AgreeBy rule ks

pub before_known : AgreeBy plain_token before
unfolding open_calls open_dots full_by spellings row rows_of operations before wanted AgreeBy
before_known = (refl, (refl, (refl, (refl, (refl, (refl, (refl, (refl, tt))))))))

-- That only refused sources change is true of the full read, and not of the statement read. `;a.b` is accepted, before and now, and its statement
-- at place 1 is another now; `a.b` was refused, and its statement at 0 was not.
pub inside_a_comment : (full_read present (bytes ";a.b") 0 ≡ gives []) × (full_by plain_token present (bytes ";a.b") 0 ≡ gives [])
    × (statement_call present (bytes ";a.b") 1 100 ≡ gives (found (ST 1 ∷ LL 1 4 ∷ []) 4))
    × (statement_by plain_token present (bytes ";a.b") 1 100 ≡ gives (found (ST 1 ∷ LL 1 2 ∷ []) 2))
unfolding open_calls open_dots full_by statement_by spellings row rows_of operations
inside_a_comment = (refl, refl, refl, refl)

pub before_a_dot : (full_by plain_token present (bytes "a.b") 100 ≡ refuses (at 20 1 2))
    × (statement_by plain_token present (bytes "a.b") 0 100 ≡ gives (found (ST 0 ∷ LL 0 1 ∷ []) 1))
    × (statement_call present (bytes "a.b") 0 100 ≡ gives (found (ST 0 ∷ LL 0 3 ∷ []) 3))
unfolding open_calls open_dots full_by statement_by spellings row rows_of operations
before_a_dot = (refl, refl, refl)

-- The letter behind the digits, RULES 15.4: o, O, h or H takes the whole run.
unfoldable pub letters : List Sample
letters =
    "equ 0adh" reads gives (ST 0 ∷ VC 4 8 173 ∷ LC 0 8 ∷ [])
    ∷ "equ 1Dh" reads gives (ST 0 ∷ VC 4 7 29 ∷ LC 0 7 ∷ [])
    ∷ "equ 00bH" reads gives (ST 0 ∷ VC 4 8 11 ∷ LC 0 8 ∷ [])
    ∷ "equ 1bo" reads refuses (at 21 4 5)
    ∷ "equ 9BO" reads refuses (at 21 4 5)
    ∷ "equ 7ffffffbh" reads gives (ST 0 ∷ VC 4 13 2147483643 ∷ LC 0 13 ∷ [])
    ∷ "equ 0ffffffffbh" reads refuses (at 21 4 5)
    -- behind `times` a name may stand right after a number
    ∷ "times 10bh" reads refuses (at 34 0 5)
    ∷ "times 1bhlt" reads gives (ST 0 ∷ VC 6 9 27 ∷ LL 9 11 ∷ LT ∷ [])
    ∷ "times 1bor ax,bx" reads refuses (at 21 6 7)
    -- with no such letter the run's last character is the suffix; prefixed numbers keep their rule
    ∷ "dw 12b" reads refuses (at 30 3 6)
    ∷ "dw 12b h" reads refuses (at 30 3 6)
    ∷ "dw 0bh" reads refuses (at 15 4 6)
    ∷ "db 0dh,0ah" reads refuses (at 15 4 6)
    ∷ "times 0dh" reads gives (ST 0 ∷ VC 6 7 0 ∷ LL 7 9 ∷ LT ∷ [])
    ∷ []

pub letters_known : Agree letters
unfolding open_calls spellings row rows_of operations letters read wanted Agree
letters_known = (refl, (refl, (refl, (refl, (refl, (refl, (refl, (refl, (refl, (refl, (refl, (refl, (refl, (refl, (refl, tt)))))))))))))))

-- What K10, K11 and these got before.
unfoldable pub letters_before : List Sample
letters_before =
    "dw 0abh" reads refuses (at 30 3 6)
    ∷ "dw 10bh" reads refuses (at 15 6 7)
    ∷ "equ 0adh" reads refuses (at 21 4 5)
    ∷ "equ 1Dh" reads refuses (at 10 6 7)
    ∷ "equ 00bH" reads refuses (at 10 7 8)
    ∷ "equ 1bo" reads refuses (at 10 6 7)
    ∷ "equ 9BO" reads refuses (at 30 4 6)
    ∷ "equ 7ffffffbh" reads refuses (at 30 4 12)
    ∷ "equ 0ffffffffbh" reads refuses (at 30 4 14)
    ∷ "times 10bh" reads gives (ST 0 ∷ VC 6 9 2 ∷ LL 9 10 ∷ LT ∷ [])
    ∷ "times 1bhlt" reads gives (ST 0 ∷ VC 6 8 1 ∷ LI 8 11 93 0 11 11 ∷ LT ∷ [])
    ∷ "times 1bor ax,bx" reads gives (ST 0 ∷ VC 6 8 1 ∷ OR 11 13 8 ∷ OR 14 16 11 ∷ LI 8 16 44 2 11 16 ∷ LT ∷ [])
    ∷ []

pub letters_before_known : AgreeBy last_first_token letters_before
unfolding open_calls open_letters full_by spellings row rows_of operations letters_before wanted AgreeBy
letters_before_known = (refl, (refl, (refl, (refl, (refl, (refl, (refl, (refl, (refl, (refl, (refl, (refl, tt))))))))))))

pub token_before : (token_by last_first_token (bytes "dw 10bh") 3 ≡ gives (Literal 3 (Number (pos 2))))
    × (token_call (bytes "dw 10bh") 3 ≡ gives (Literal 4 (Number (pos 267))))
unfolding open_calls open_letters token_by
token_before = (refl, refl)

-- The sources that demand 2 leaves out for their tokens, and some that it does not: in a comment, in quotes, in a name and behind a prefix there is no
-- such run.
unfoldable pub left_out : String → Bool
left_out s = somewhere original_token changes 0 (bytes s)

pub left_out_known : (left_out "dw 10bh" ≡ true) × (left_out "nop\ntimes 1bhlt" ≡ true) × (left_out "dw 1,0Dh" ≡ true) × (left_out "equ 9bo" ≡ true)
    × (left_out "w12.a equ 5" ≡ true) × (left_out "nop ; 10bh" ≡ false) × (left_out "db '10bh w12.a'" ≡ false) × (left_out "x10bh" ≡ false)
    × (left_out "dw 0x1bh,0dh,0b1h" ≡ false) × (left_out "dw 10b h,17o,9o,0FFh" ≡ false)
unfolding open_calls open_dots open_letters open_original somewhere left_out
left_out_known = (refl, refl, refl, refl, refl, refl, refl, refl, refl, refl)

-- Samples of `evaluate`: an operator's number, two numbers, the answer.
pub record Evaluation : Type 0 where
  pub op : ℕ
  pub first : ℤ
  pub second : ℤ
  pub answer : Result ℤ

unfoldable pub evaluations : List Evaluation
evaluations =
    record { op = 0; first = pos 2147483646; second = pos 1; answer = gives (pos 2147483647) }
    ∷ record { op = 0; first = pos 2147483647; second = pos 1; answer = refuses (nowhere 50) }
    ∷ record { op = 1; first = negsuc 2147483646; second = pos 1; answer = gives (negsuc 2147483647) }
    ∷ record { op = 1; first = negsuc 2147483647; second = pos 1; answer = refuses (nowhere 50) }
    ∷ record { op = 2; first = negsuc 6; second = pos 3; answer = gives (negsuc 20) }
    ∷ record { op = 3; first = negsuc 6; second = pos 2; answer = gives (negsuc 2) }
    ∷ record { op = 3; first = pos 7; second = pos 0; answer = refuses (nowhere 51) }
    ∷ record { op = 3; first = negsuc 2147483647; second = negsuc 0; answer = refuses (nowhere 50) }
    ∷ []

unfoldable pub Evaluates : List Evaluation → Type 0
Evaluates [] = Unit {0}
Evaluates (e ∷ es) = (evaluate e.op e.first e.second ≡ e.answer) × Evaluates es

pub evaluated : Evaluates evaluations
unfolding open_evaluate evaluations Evaluates
evaluated = (refl, (refl, (refl, (refl, (refl, (refl, (refl, (refl, tt))))))))

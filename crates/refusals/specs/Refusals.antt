-- The five values of a refusal: number, span, and two registers. A register that is not there is 255; both are 255 at every refusal but 25.
use Rattle.std.specs.Prelude.{ℕ, Result, Ok, Err}
use Rattle.refusals.specs.declared.Reason.{Reason}
use Rattle.refusals.specs.declared.Reason.TheVariants as reason
use Rattle.refusals.specs.declared.Registers.{Registers}
use Rattle.refusals.specs.declared.Registers.TheVariants as registers
use Rattle.refusals.specs.declared.Refusal.{Refusal}

pub record Numbers : Type 0 where
  pub number : ℕ
  pub from : ℕ
  pub to : ℕ
  pub first : ℕ
  pub second : ℕ

-- a refusal with a span, and no registers
abbrev pub spanned : (number from to : ℕ) → Numbers
spanned n f t = record { number = n; from = f; to = t; first = 255; second = 255 }

-- a refusal without a span, which is 0 to 0 then
abbrev pub spanless : (number : ℕ) → Numbers
spanless n = spanned n 0 0

-- The number of each reason. RULES 11.
abbrev pub number_of : Reason → ℕ
number_of reason.SourceTooLong = 1
number_of reason.NotAscii = 2
number_of reason.ExpressionTooDeep = 3
number_of reason.ListingNoRoom = 4
number_of reason.TimesTooDeep = 5
number_of reason.SourceNoRoom = 6
number_of reason.LineEndExpected = 10
number_of reason.CommaExpected = 11
number_of reason.ColonExpected = 12
number_of reason.CloseBracketExpected = 13
number_of reason.CloseParenthesisExpected = 14
number_of reason.LiteralExpected = 15
number_of reason.ClosedStringExpected = 16
number_of reason.OneCharacterExpected = 17
number_of reason.InstructionExpected = 20
number_of reason.OperandExpected = 21
number_of reason.InvalidPrefixOperator = 22
number_of reason.DataDefinitionWithoutData = 23
number_of reason.SegmentOrAddressExpected = 24
number_of reason.InvalidIndirectEncoding = 25
number_of reason.UnterminatedStringLiteral = 26
number_of reason.BinaryLargerDigit = 30
number_of reason.PrefixedTooLarge = 31
number_of reason.NothingAfterOverride = 32
number_of reason.TwoIndexRegisters = 33
number_of reason.TimesWithoutContent = 34
number_of reason.TimesLeftOpen = 40
number_of reason.ListingNotWellFormed = 41
number_of reason.NoSuchPlace = 42
number_of reason.LineFeedInText = 43
number_of reason.Beyond32Bits = 50
number_of reason.ZeroDivisor = 51
number_of reason.NumberTooWide = 60

abbrev pub first_of : Registers → ℕ
first_of registers.None = 255
first_of (registers.One r) = r
first_of (registers.Two r s) = r

abbrev pub second_of : Registers → ℕ
second_of registers.None = 255
second_of (registers.One r) = 255
second_of (registers.Two r s) = s

-- The code's refusal, by its five values.
abbrev pub numbers : Refusal → Numbers
numbers r = record { number = number_of r.reason; from = r.from; to = r.to; first = first_of r.registers; second = second_of r.registers }

-- An answer, with the values of its refusal.
abbrev pub by_numbers : {A : Type 0} → Result A Refusal → Result A Numbers
by_numbers (Ok a) = Ok a
by_numbers (Err r) = Err (numbers r)

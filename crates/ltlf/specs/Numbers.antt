-- The number of each refusal of a text, and of what keeps a rule from being made.
use Rattle.std.specs.Prelude.{ℕ, Some, None, Option}
use Rattle.ltlf.specs.declared.fault.RuleFault.{RuleFault}
use Rattle.ltlf.specs.declared.fault.RuleFault.TheVariants.{Text, Memory}
use Rattle.ltlf.specs.declared.fault.TextFault.{TextFault}
use Rattle.ltlf.specs.declared.fault.TextFault.TheVariants.{Empty, TooLong, UnknownByte, DigitTooLarge, TextEnds, ByteAfterEnd, NotRule}

abbrev pub number : TextFault → ℕ
number Empty = 1  -- the text has no byte
number TooLong = 2  -- it has more than 64 bytes
number UnknownByte = 3  -- a byte that no text has
number DigitTooLarge = 4  -- a digit not below the number of bits
number TextEnds = 5  -- the text ends inside its formula
number ByteAfterEnd = 6  -- a byte behind the formula's end
number NotRule = 7  -- a temporal operator beneath another, or a fourth term

-- want of memory is no refusal, and has no number
abbrev pub rule_number : RuleFault → Option ℕ
rule_number (Text e) = Some (number e)
rule_number Memory = None

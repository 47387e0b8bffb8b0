-- What a byte of a text says, alone and at its place.
use Rattle.std.specs.Prelude.{ℕ, ◌+◌, ◌-◌, Bool, true, false, cond, ◌&&◌, Some, None, Ok, Err, Option, Result, ◌==◌, nat_le, nat_lt}
use Rattle.ltlf.specs.Operators.{temporal1, temporal2}
use Rattle.ltlf.specs.declared.fault.TextFault.{TextFault}
use Rattle.ltlf.specs.declared.fault.TextFault.TheVariants.{UnknownByte, DigitTooLarge, NotRule}
use Rattle.ltlf.specs.declared.formula.Unary.TheVariants.{Not, Next, Eventually, Always}
use Rattle.ltlf.specs.declared.formula.Binary.TheVariants.{And, Or, Until}
use Rattle.ltlf.specs.declared.token.Token.{Token}
use Rattle.ltlf.specs.declared.token.Token.TheVariants.{Truth, Digit, Unary, Binary}

-- the token of a byte, in ASCII; any other byte is unknown
abbrev pub kind : ℕ → Option Token
kind c =
    cond (c == 116) (Some (Truth true))  -- t
    (cond (c == 102) (Some (Truth false))  -- f
    (cond (nat_le 48 c && nat_le c 57) (Some (Digit (c - 48)))  -- 0 to 9
    (cond (c == 33) (Some (Unary Not))  -- !
    (cond (c == 88) (Some (Unary Next))  -- X
    (cond (c == 70) (Some (Unary Eventually))  -- F
    (cond (c == 71) (Some (Unary Always))  -- G
    (cond (c == 38) (Some (Binary And))  -- &
    (cond (c == 124) (Some (Binary Or))  -- |
    (cond (c == 85) (Some (Binary Until))  -- U
    None)))))))))

-- a digit is one below the number of bits
abbrev pub known : ℕ → Option Token → Result Token TextFault
known bits None = Err UnknownByte
known bits (Some (Truth v)) = Ok (Truth v)
known bits (Some (Digit j)) = cond (nat_lt j bits) (Ok (Digit j)) (Err DigitTooLarge)
known bits (Some (Unary o)) = Ok (Unary o)
known bits (Some (Binary o)) = Ok (Binary o)

abbrev pub token : ℕ → ℕ → Result Token TextFault
token bits c = known bits (kind c)

-- the terms with one more, of which there are at most three
abbrev pub one_more : ℕ → Result ℕ TextFault
one_more n = cond (nat_lt n 3) (Ok (n + 1)) (Err NotRule)

-- a temporal operator is a term, and stands beneath no other
abbrev pub with_operator : Bool → Bool → ℕ → Result ℕ TextFault
with_operator temporal beneath n = cond temporal (cond beneath (Err NotRule) (one_more n)) (Ok n)

-- the terms so far with a token that stands beneath a temporal operator, or beneath none; a digit is a term beneath none
abbrev pub terms_with : Token → Bool → ℕ → Result ℕ TextFault
terms_with (Truth v) beneath n = Ok n
terms_with (Digit j) beneath n = cond beneath (Ok n) (one_more n)
terms_with (Unary o) beneath n = with_operator (temporal1 o) beneath n
terms_with (Binary o) beneath n = with_operator (temporal2 o) beneath n

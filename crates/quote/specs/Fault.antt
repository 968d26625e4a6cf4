-- What is wrong with a line, in words.
use Rattle.std.specs.Prelude.{List, ℕ, codes}
use Rattle.quote.specs.declared.fault.Fault.{Fault}
use Rattle.quote.specs.declared.fault.Fault.TheVariants.{UnknownWord, MissingNumber, NotANumber, NumberTooLarge, ExtraWord, LineTooLong}

abbrev pub text_of : Fault → List ℕ
text_of UnknownWord = codes "unknown word"
text_of MissingNumber = codes "a number is missing"
text_of NotANumber = codes "not a number"
text_of NumberTooLarge = codes "a number is too large"
text_of ExtraWord = codes "more than the call takes"
text_of LineTooLong = codes "longer than 255 bytes"

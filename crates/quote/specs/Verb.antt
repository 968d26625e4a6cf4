-- The first word of a line: which call it names.
use Rattle.std.specs.Prelude.{List, [], ◌∷◌, ℕ, codes, bytes_eq, find, ok_or, Option, Result}
use Rattle.quote.specs.declared.fault.Fault.{Fault}
use Rattle.quote.specs.declared.fault.Fault.TheVariants.{UnknownWord}
use Rattle.quote.specs.declared.verb.Verb.{Verb}
use Rattle.quote.specs.declared.verb.Verb.TheVariants.{Open, Set, Fill, Refresh, Rate, Cut}

abbrev pub name_of : Verb → List ℕ
name_of Open = codes "open"
name_of Set = codes "set"
name_of Fill = codes "fill"
name_of Refresh = codes "refresh"
name_of Rate = codes "rate"
name_of Cut = codes "cut"

abbrev pub verbs : List Verb
verbs = Open ∷ Set ∷ Fill ∷ Refresh ∷ Rate ∷ Cut ∷ []

abbrev pub verb_named : List ℕ → Option Verb
verb_named name = find (λ v. bytes_eq (name_of v) name) verbs

unfoldable pub verb_of : List ℕ → Result Verb Fault
verb_of name = ok_or (verb_named name) UnknownWord

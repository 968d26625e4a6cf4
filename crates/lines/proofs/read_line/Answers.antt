use Rattle.std.proofs.Common.{◌≡◌, ◌≢◌, ◌<◌, ℕ, List, [], ◌∷◌, length, take, Option, None, Some, Ok, option_copied, Bor, inr, sym, subst, arith, rules}
use Rattle.std.proofs.KnownBytes.{Consumes-kept, Consumes-trans}
use Rattle.std.proofs.lemmas.Grind.{common_steps}
use Rattle.std.proofs.lemmas.List.{take_more_set}
use Rattle.std.proofs.lemmas.List.Elements.{All-push}
use Rattle.std.specs.Io.KnownBytes.{Consumes, Keeps}
use Rattle.lines.specs.declared.TooLong.{TooLong}
use Rattle.lines.specs.Line.{ConsumesLine, HasNoEnd, ReadsLine, last_line}
use Rattle.lines.proofs.read_line.Goals as goal

Keeps-none_taken : (old new : Option (List ℕ)) → Consumes old new [] → Keeps old new
Keeps-none_taken None new h = tt
Keeps-none_taken (Some xs) None h = h
Keeps-none_taken (Some xs) (Some ys) h = sym h

-- the bytes so far are a last line, if there are any
ReadsLine-last_line : (old new : Option (List ℕ)) (n : ℕ) (bs : List ℕ) (r : Option (Bor (List ℕ))) → option_copied r ≡ last_line bs
    → HasNoEnd bs → length bs < n → Consumes old new bs → ReadsLine {E = TooLong} old new n (Ok r)
unfolding last_line
ReadsLine-last_line old new n [] None e no_end lt taken = Keeps-none_taken old new taken
ReadsLine-last_line old new n [] (Some line) e no_end lt taken = cc
ReadsLine-last_line old new n (b ∷ bs) None e no_end lt taken = cc
ReadsLine-last_line old new n (b ∷ bs) (Some line) e no_end lt taken =
    let is : b ∷ bs ≡ line.now = cc in
    subst (λ l. HasNoEnd l × (length l < n) × ConsumesLine old new l) is (no_end, lt, inr (omega arith, taken))

pub returns-in-None : goal.returns-in-None
returns-in-None g c =
    ReadsLine-last_line _ _ _ (take c.loop-n.n c.loop-n.line) _ (search rules) c.loop-n.invariant.no_end (grind (arith, common_steps))
    (Consumes-kept _ _ _ _ c.loop-n.invariant.taken c.in-None.ensures)

pub loop-n-preserved : goal.loop-n-preserved
loop-n-preserved g c =
    let more = sym (take_more_set c.loop-n.line c.loop-n.n c.in-Some.b (omega arith)) in
    record {
      no_end = subst HasNoEnd more (All-push (λ b. b ≢ 10) _ _ c.loop-n.invariant.no_end (search rules));
      taken = subst (Consumes _ _) more (Consumes-trans _ _ _ _ _ c.loop-n.invariant.taken c.in-Some.ensures);
    }

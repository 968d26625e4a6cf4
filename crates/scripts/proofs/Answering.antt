-- The reply to an opening, a set, a fill and a rate: by the number that the page gives.
use mathlib.Core.Path.{◌≡◌, refl, ap, ◌∙◌}
use mathlib.Core.Bool.{Bool, true, false, cond, not, ◌&&◌}
use mathlib.Core.List.{List, [], ◌∷◌}
use mathlib.Core.Option.{Option, none, some}
use Prim.Native.Nat.{ℕ, zero, suc}
use lib.Dec.{leb}
use lib.ListN.{length, set}
use Rattle.stand.specs.Edit.{Edited, edited, look, set_call, set_def, set_refusal}
use Rattle.stand.specs.Fill.{fill_call, fill_def, fill_refusal}
use Rattle.stand.specs.Opening as O
use Rattle.stand.specs.Opening.{opened_shape}
use Rattle.stand.specs.Refusal.{◌⇒◌, first}
use Rattle.stand.specs.Shape.{Shape, inside, well_formed}
use Rattle.stand.specs.Storage.{State, Storage, joined, shape}
use Rattle.stand.specs.declared.Cell.{Cell}
use Rattle.stand.specs.declared.volume.Extent.{Extent}
use Rattle.stand.proofs.Tests.{by-test}
use Rattle.sheet.specs.Card.{Terms}
use Rattle.ledger.specs.Book.{Book}
use Rattle.ledger.proofs.Tells.{Tells}
use Rattle.interpreter.specs.Run.{fill_step, fill_with, front, held, machine_of, open_step, open_with, opened_turn, rate_step, rated_of, reply_of, set_step, set_with, turn_of}
use Rattle.interpreter.specs.declared.Machine.{Machine}
use Rattle.interpreter.specs.declared.Reply.{Reply}
use Rattle.interpreter.specs.declared.Reply.TheVariants as R
use Rattle.scripts.specs.Page.{fill_number, open_number, rate_number, set_number}
use Rattle.scripts.specs.Said.{on_stand, refused_or}
use Rattle.scripts.proofs.Cards.{listed-is}
use Rattle.scripts.proofs.Edits.{fill-table, set-table}
use Rattle.scripts.proofs.Fronts.{Full}
use Rattle.scripts.proofs.Lending.{held_none}
use Rattle.scripts.proofs.Openings.{number_is}
use Rattle.scripts.proofs.Standing.{Standing, held-is}

-- nothing, or a number
abbrev pub quietly : ℕ → Reply
quietly n = refused_or n R.Quiet

-- ---- an opening

open_under : (m : Machine) (s : Storage) (g : Shape) (j : ℕ) → (opened_turn m (O.opened j s g).answer).reply ≡ quietly j
unfolding O.opened
open_under m s g zero = refl
open_under m s g (suc j) = refl

module _ (m : Machine) (s : Storage) (u : Full s) (k : ℕ) (q : k ≡ 12) where
  pub open_says : (o : Cell) (size : Extent) → (open_step m s k o size).turn.reply ≡ quietly (open_number (opened_shape o size))
  unfolding open_step open_with O.open_call
  open_says o size =
      ap (λ k. (open_step m s k o size).turn.reply) q ∙ open_under m _ (opened_shape o size) _ ∙ ap quietly (number_is s u o size)

-- ---- a set and a fill

edit_under : (j : ℕ) (x : State) (e : Edited) → reply_of (edited j x e).answer ≡ quietly j
unfolding edited
edit_under zero x e = refl
edit_under (suc j) x e = refl

-- before the first opening
set_ill : (x : State) (c : Cell) (v : ℕ) → well_formed x.volume ≡ false → reply_of (set_call x c v).answer ≡ R.Refused 3
unfolding set_call set_refusal first edited
set_ill x c v f = rw f

fill_ill : (x : State) (c d : Cell) (v : ℕ) → well_formed x.volume ≡ false → reply_of (fill_call x c d v).answer ≡ R.Refused 3
unfolding fill_call fill_refusal first edited
fill_ill x c d v f = rw f

-- beside the book
module _ (x : State) (b : Book) (k : Tells x b) where
  -- of a cell outside no finish is looked at
  old_alike : (c : Cell) (v : ℕ) → set_refusal true true b.shape b.count (look (shape x) x.cells c) c v ≡ set_refusal true true b.shape b.count (b.look c) c v
  unfolding set_refusal first
  old_alike c v =
      by-test (inside b.shape c) (λ q. ap (λ n. set_refusal true true b.shape b.count n c v) (k.cells_are c q)) (λ q. rw q)

  set_under : (c : Cell) (v : ℕ) → reply_of (set_call x c v).answer ≡ quietly (set_number c v b)
  unfolding set_call
  set_under c v =
      edit_under _ x (set_def x c v)
      ∙ ap quietly
      ((λ i. set_refusal (k.formed i) (k.fits i) (k.shape_is i) (k.count-is i) (look (shape x) x.cells c) c v) ∙ old_alike c v ∙ set-table b c v)

  fill_under : (c d : Cell) (v : ℕ) → reply_of (fill_call x c d v).answer ≡ quietly (fill_number c d b)
  unfolding fill_call
  fill_under c d v =
      edit_under _ x (fill_def x c d v)
      ∙ ap quietly ((λ i. fill_refusal (k.formed i) (k.fits i) (k.shape_is i) (k.count-is i) c d) ∙ fill-table b c d)

module _ (m : Machine) (s : Storage) (t : Terms) (sheet : List ℕ) (u : Full s) (k : ℕ) (q : k ≡ 12) where
  pub set_says : (c : Cell) (v : ℕ) (b : Option Book) → Standing m s t sheet b → (set_step m s k c v).turn.reply ≡ on_stand b (λ b. quietly (set_number c v b))
  unfolding Standing set_step set_with
  set_says c v none f =
      ap (λ n. (set_with n m s c v).turn.reply) (ap (held m s) q ∙ held_none m s u f) ∙ set_ill (joined m.volume (front 0 s)) c v f
  set_says c v (some b) w =
      ap (λ n. (set_with n m s c v).turn.reply) (held-is w u k q) ∙ set_under (joined m.volume (front w.n s)) b w.tells c v

  pub fill_says : (c d : Cell) (v : ℕ) (b : Option Book) → Standing m s t sheet b → (fill_step m s k c d v).turn.reply ≡ on_stand b (λ b. quietly (fill_number c d b))
  unfolding Standing fill_step fill_with
  fill_says c d v none f =
      ap (λ n. (fill_with n m s c d v).turn.reply) (ap (held m s) q ∙ held_none m s u f) ∙ fill_ill (joined m.volume (front 0 s)) c d v f
  fill_says c d v (some b) w =
      ap (λ n. (fill_with n m s c d v).turn.reply) (held-is w u k q) ∙ fill_under (joined m.volume (front w.n s)) b w.tells c d v

-- ---- a rate

pub rate_says : (m : Machine) (rates : List ℕ) (f r : ℕ) → length rates ≡ 64 → (rate_step m rates f r).turn.reply ≡ quietly (rate_number f)
unfolding rate_step rate_number first
rate_says m rates f r e = ap reply (listed-is f rates e) ∙ by (leb 1 f && leb f 63)
  where
    reply : Bool → Reply
    reply x =
        (cond x (rated_of (turn_of (machine_of m.volume m.marks true m.cut) R.Quiet) (set rates f r)) (rated_of (turn_of m (R.Refused 12)) rates)).turn.reply

    by : (x : Bool) → reply x ≡ quietly (first ((not x ⇒ 12) ∷ []))
    by true = refl
    by false = refl

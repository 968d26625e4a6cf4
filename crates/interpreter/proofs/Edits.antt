-- From what an edit comes to on a part of the storage, to what the interpreter's call comes to.
use mathlib.Core.Path.{◌≡◌, refl, sym, ap, ◌∙◌}
use mathlib.Core.Bool.{Bool, true, false, ◌||◌}
use mathlib.Core.List.{List}
use Prim.Native.Nat.{ℕ}
use Rattle.stand.specs.Opening.{Opening}
use Rattle.stand.specs.Refusal.{Answer, gives, refused}
use Rattle.stand.specs.Storage.{Outcome, Storage, joined, outcome_of, storage, storage_of}
use Rattle.stand.specs.declared.volume.Volume.{Volume}
use Rattle.interpreter.specs.Edits.{chunks_for, edit_call, edit_step, edited_turn, headed, made, opened_from, opens}
use Rattle.interpreter.specs.Room.{lent_of}
use Rattle.interpreter.specs.Run.{Edited, Turn, back, edited_of, fill_step, fill_with, front, held, lengths_in, machine_of, moved, open_step, open_with, opened_turn, set_step, set_with, turn_of}
use Rattle.interpreter.specs.declared.Machine.{Machine}
use Rattle.interpreter.specs.declared.Reply.TheVariants as P
use Rattle.interpreter.specs.declared.edit.Edit.{Edit}
use Rattle.interpreter.specs.declared.edit.Edit.TheVariants.{Open, Set, Fill}

-- a turn by what an edit comes to
abbrev turn_by : Bool → Machine → Volume → Answer Volume → Turn
turn_by b m w (gives v) = turn_of (machine_of v m.marks (b || m.stale) m.cut) P.Quiet
turn_by b m w (refused n) = turn_of (machine_of w m.marks m.stale m.cut) (P.Refused n)

abbrev edited_by : Bool → Machine → Outcome Volume → Edited
edited_by b m o = edited_of (turn_by b m o.state.volume o.answer) (storage o.state)

by_made : (e : Edit) (m : Machine) (a : Answer Volume) (t : Storage) → edited_of (edited_turn e m a) t ≡ edited_by (opens e) m (made m.volume a t)
by_made e m (gives v) t = refl
by_made e m (refused n) t = refl

-- with n sections lent, and the storage that they leave
abbrev back_in : ℕ → Storage → Outcome Volume → Outcome Volume
back_in n s o = outcome_of o.answer (joined o.state.volume (back n (storage o.state) s))

by_part : (n : ℕ) (b : Bool) (m : Machine) (s t : Storage) (a : Answer Volume)
    → edited_by b m (made m.volume a (back n t s)) ≡ edited_by b m (back_in n s (made m.volume a t))
by_part n b m s t (gives v) = refl
by_part n b m s t (refused k) = refl

by_opening : (n : ℕ) (m : Machine) (s : Storage) (o : Opening) → edited_by true m (back_in n s (opened_from m.volume o)) ≡ edited_of (opened_turn m o.answer) (back n o.storage s)
by_opening n m s o = by o.answer
  where
    by : (a : Answer Volume) → edited_by true m (back_in n s (made m.volume a o.storage)) ≡ edited_of (opened_turn m a) (back n o.storage s)
    by (gives v) = refl
    by (refused k) = refl

by_moving : (n : ℕ) (m : Machine) (s : Storage) (o : Outcome ℕ) → edited_by false m (back_in n s (headed o)) ≡ moved n m s o
by_moving n m s o = by o.answer
  where
    by : (a : Answer ℕ) → edited_by false m (back_in n s (headed (outcome_of a o.state))) ≡ moved n m s (outcome_of a o.state)
    by (gives k) = refl
    by (refused k) = refl

-- by the edit's kind
by_kind : (e : Edit) (m : Machine) (s : Storage) (sheet : ℕ)
    → (let n : ℕ = lent_of (chunks_for e m.volume) (lengths_in s sheet) in
    edited_by (opens e) m (back_in n s (edit_call e m.volume (front n s))) ≡ edit_step e m s sheet)
unfolding open_step open_with set_step set_with fill_step fill_with held
by_kind (Open o size) m s sheet = by_opening _ m s _
by_kind (Set c f) m s sheet = by_moving _ m s _
by_kind (Fill a b f) m s sheet = by_moving _ m s _

pub edited_so : (e : Edit) (m : Machine) (s : Storage) (sheet : ℕ) (a : Answer Volume) (cells hashes versions log last : List ℕ) {k n : ℕ} {r : Turn}
    → k ≡ chunks_for e m.volume
    → n ≡ lent_of k (lengths_in s sheet)
    → made m.volume a (storage_of cells hashes versions log last) ≡ edit_call e m.volume (front n s)
    → r ≡ edited_turn e m a
    → edited_of r (back n (storage_of cells hashes versions log last) s) ≡ edit_step e m s sheet
edited_so e m s sheet a cells hashes versions log last {n = n} want lend f g =
    let t : Storage = storage_of cells hashes versions log last in
    ap (λ r. edited_of r (back n t s)) g
    ∙ by_made e m a (back n t s)
    ∙ by_part n (opens e) m s t a
    ∙ ap (λ o. edited_by (opens e) m (back_in n s o)) f
    ∙ ap (λ n. edited_by (opens e) m (back_in n s (edit_call e m.volume (front n s)))) (lend ∙ ap (λ k. lent_of k (lengths_in s sheet)) want)
    ∙ by_kind e m s sheet

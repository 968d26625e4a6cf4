-- Laws of the walk over occupied cells: the search, and the cell of a storage index.
use Rattle.std.proofs.Common.{◌≡◌, ℕ, zero, suc, ◌+◌, ◌-◌, ◌*◌, ◌/◌, ◌%◌, ◌<◌, true, false, List, length, get_or, Option, Some, None, sym, ap, ◌∙◌, arith, w32, to_z, le-ltb, lt-ltb}
use mir.ValLaws.{to_z_pos}
use Rattle.std.specs.Option.{unwrap_or}
use Rattle.stand.specs.Cells.{is_empty, moved}
use Rattle.stand.specs.Lent.{first_occupied}
use Rattle.stand.specs.Shape.{Below, cell_at, chunk_place, corner, counts_of, max_chunks, sections, shape_of, spot_at, well_formed}
use Rattle.stand.specs.Refusal.{first, gives, list_rules}
use Rattle.stand.specs.Solids.{end, occupied_from, solid, solid_at, solids_call}
use Rattle.stand.specs.declared.Cell.{Cell}
use Rattle.stand.specs.declared.volume.Volume.{Volume}
use Rattle.stand.specs.declared.volume.shape.Point.{Point}
use Rattle.stand.proofs.Formed.{corner-x, corner-y, corner-z}
use Rattle.stand.proofs.Refusal.{accepted}
use Rattle.stand.proofs.Shape.{formed-counts, formed-opens, sections-few}
use Rattle.stand.proofs.Tests.{by-test}

-- ---- the search

module _ (cells : List ℕ) where
  first_here : (i k : ℕ) → is_empty (get_or cells i 0) ≡ false → first_occupied cells i (suc k) ≡ Some i
  unfolding first_occupied
  first_here i k e = rw e

  first_later : (i k : ℕ) → is_empty (get_or cells i 0) ≡ true → first_occupied cells i (suc k) ≡ first_occupied cells (i + 1) k
  unfolding first_occupied
  first_later i k e = rw e

  from_here : (i k : ℕ) → is_empty (get_or cells i 0) ≡ false → occupied_from cells i (suc k) ≡ i
  unfolding occupied_from
  from_here i k e = rw e

  from_later : (i k : ℕ) → is_empty (get_or cells i 0) ≡ true → occupied_from cells i (suc k) ≡ occupied_from cells (i + 1) k
  unfolding occupied_from
  from_later i k e = rw e

  -- the index found, or the one past the last: as the definition has it
  pub found_at : (i k : ℕ) → occupied_from cells i k ≡ unwrap_or (first_occupied cells i k) (i + k)
  found_at i zero = unfold occupied_from first_occupied in omega arith
  found_at i (suc k) =
      by-test (is_empty (get_or cells i 0))
      (λ e. from_later i k e ∙ found_at (i + 1) k ∙ rw (first_later i k e) (ap (unwrap_or (first_occupied cells (i + 1) k)) (omega arith)))
      (λ e. from_here i k e ∙ sym (ap (λ (o : Option ℕ). unwrap_or o (i + suc k)) (first_here i k e)))

-- ---- the cell of a storage index

module _ (v : Volume) (formed : well_formed v ≡ true) {i : ℕ} (h : i < sections (shape_of v) * 4096) where
  pub section_low : i / 4096 < max_chunks
  section_low = omega (arith, sections-few (shape_of v) (formed-opens v formed))

  module _ {c : Point} (is : c ≡ corner (counts_of v.chunks) (i / 4096)) where
    pub near : Below (16 * max_chunks) c
    unfolding corner chunk_place
    near =
        let k = counts_of v.chunks in
        rw is (record {
          x = omega (arith, corner-x k (i / 4096), section_low);
          y = omega (arith, corner-y k (i / 4096), section_low);
          z = omega (arith, corner-z k (i / 4096), section_low);
        })

    -- from its section's corner; signed, as the code has it
    pub cell_of : moved v.origin (to_z w32 (c.x + i % 4096 % 16)) (to_z w32 (c.y + i % 4096 / 16 % 16)) (to_z w32 (c.z + i % 4096 / 256)) ≡ cell_at (shape_of v) i
    unfolding cell_at shape_of spot_at
    cell_of =
        (λ j. moved v.origin
        (to_z_pos w32 (c.x + i % 4096 % 16) (omega (arith, near.x)) j)
        (to_z_pos w32 (c.y + i % 4096 / 16 % 16) (omega (arith, near.y)) j)
        (to_z_pos w32 (c.z + i % 4096 / 256) (omega (arith, near.z)) j))
        ∙ rw (is, formed-counts v formed)

-- ---- a step

module _ (v : Volume) (cells : List ℕ) (i : ℕ) (ok : 0 ≡ first (list_rules 4096 v (length cells))) where
  call_at : (o : Option ℕ) → o ≡ first_occupied cells i (length cells - i)
      → gives (solid_at (shape_of v) cells (unwrap_or o (i + (length cells - i)))) ≡ solids_call v cells i
  unfolding solids_call
  call_at o e =
      rw (e, ← found_at cells i (length cells - i)) (accepted (solid_at (shape_of v) cells (occupied_from cells i (length cells - i))) (sym ok))

  -- where the search finds none, the walk ends
  pub ends : None ≡ first_occupied cells i (length cells - i) → gives end ≡ solids_call v cells i
  unfolding solid_at
  ends e = rw (le-ltb (i + (length cells - i)) (length cells) (omega arith)) at (call_at None e)

  -- else it gives what is there, and goes on behind it
  pub one_more : (w : Volume) (xs : List ℕ) (j : ℕ) (c : Cell) → w ≡ v → xs ≡ cells → Some j ≡ first_occupied cells i (length cells - i) → j < length cells
      → c ≡ cell_at (shape_of w) j → gives (solid c (get_or xs j 0) (j + 1)) ≡ solids_call v cells i
  unfolding solid_at
  one_more w xs j c p q e l r = rw (r, p, q) (rw (lt-ltb j (length cells) l) at (call_at (Some j) e))

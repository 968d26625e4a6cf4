-- Worked out by a program of its own, not by these definitions.
use Rattle.std.specs.Prelude.{ℕ, ◌≡◌, List, [], ◌∷◌, ◌++◌, pos, negsuc, replicate, set}
use Rattle.stand.specs.Cells.{cell_of}
use Rattle.stand.specs.Refusal.{refused, gives}
use Rattle.stand.specs.Shape.{Shape, point_of}
use Rattle.stand.specs.Storage.{fresh_storage, volume_of}
use Rattle.form.specs.Calls.{load_call, stored_form, stored_header, store_call, stored_length, storing_of}
use Rattle.form.specs.Entries.{entry_of, loaded_storage}
use Rattle.form.specs.Form.{form_of}

abbrev pub one_at0 : Shape
one_at0 = record { origin = cell_of (pos 0) (pos 0) (pos 0); size = point_of 1 1 1 }

abbrev pub seventeen : Shape
seventeen = record { origin = cell_of (pos 0) (pos 0) (pos 0); size = point_of 17 1 1 }

-- one block of finish 1: 41 bytes, digest 06908e4f5fef3724
abbrev pub one_block : List ℕ
one_block =
    1 ∷ 0 ∷ 0 ∷ 0 ∷ 0 ∷ 0 ∷ 0 ∷ 0 ∷ 0 ∷ 0 ∷ 0 ∷ 0 ∷ 0 ∷ 1 ∷ 0 ∷ 0 ∷ 0 ∷ 1 ∷ 0 ∷ 0 ∷ 0 ∷ 1 ∷ 0 ∷ 0 ∷ 0
    ∷ 2 ∷ 0 ∷ 0 ∷ 0 ∷ 0 ∷ 1 ∷ 0
    ∷ 0 ∷ 0x24 ∷ 0x37 ∷ 0xef ∷ 0x5f ∷ 0x4f ∷ 0x8e ∷ 0x90 ∷ 0x06 ∷ []

-- 17 in a row, the last one of finish 3, digest 217c229d9ac77d7d
abbrev pub last_only : List ℕ
last_only =
    1 ∷ 0 ∷ 0 ∷ 0 ∷ 0 ∷ 0 ∷ 0 ∷ 0 ∷ 0 ∷ 0 ∷ 0 ∷ 0 ∷ 0 ∷ 0x11 ∷ 0 ∷ 0 ∷ 0 ∷ 1 ∷ 0 ∷ 0 ∷ 0 ∷ 1 ∷ 0 ∷ 0 ∷ 0
    ∷ 2 ∷ 1 ∷ 0 ∷ 0 ∷ 0 ∷ 3 ∷ 0
    ∷ 0 ∷ 0x7d ∷ 0x7d ∷ 0xc7 ∷ 0x9a ∷ 0x9d ∷ 0x22 ∷ 0x7c ∷ 0x21 ∷ []

-- 257 sections, so that each field has its own value and each byte its own place
abbrev pub wide : Shape
wide = record { origin = cell_of (negsuc 1) (pos 16909060) (negsuc 2147483647); size = point_of 4110 2 3 }

-- the cell (4107, 16909061, -2147483646) of finish 43981: section 256, index 541, digest cb16ecd5edff2c20
abbrev pub wide_bytes : List ℕ
wide_bytes =
    1 ∷ 0xfe ∷ 0xff ∷ 0xff ∷ 0xff ∷ 4 ∷ 3 ∷ 2 ∷ 1 ∷ 0 ∷ 0 ∷ 0 ∷ 0x80 ∷ 0x0e ∷ 0x10 ∷ 0 ∷ 0 ∷ 2 ∷ 0 ∷ 0 ∷ 0 ∷ 3 ∷ 0 ∷ 0 ∷ 0
    ∷ 2 ∷ 0 ∷ 1 ∷ 0x1d ∷ 2 ∷ 0xcd ∷ 0xab
    ∷ 0 ∷ 0x20 ∷ 0x2c ∷ 0xff ∷ 0xed ∷ 0xd5 ∷ 0xec ∷ 0x16 ∷ 0xcb ∷ []

-- a head alone of 1,048,577 in a row, which are 65,537 sections
abbrev pub many_alone : List ℕ
many_alone = 1 ∷ 0 ∷ 0 ∷ 0 ∷ 0 ∷ 0 ∷ 0 ∷ 0 ∷ 0 ∷ 0 ∷ 0 ∷ 0 ∷ 0 ∷ 1 ∷ 0 ∷ 0x10 ∷ 0 ∷ 1 ∷ 0 ∷ 0 ∷ 0 ∷ 1 ∷ 0 ∷ 0 ∷ 0 ∷ []

-- a head alone of two from 2,147,483,647 on
abbrev pub past_alone : List ℕ
past_alone = 1 ∷ 0xff ∷ 0xff ∷ 0xff ∷ 0x7f ∷ 0 ∷ 0 ∷ 0 ∷ 0 ∷ 0 ∷ 0 ∷ 0 ∷ 0 ∷ 2 ∷ 0 ∷ 0 ∷ 0 ∷ 1 ∷ 0 ∷ 0 ∷ 0 ∷ 1 ∷ 0 ∷ 0 ∷ 0 ∷ []

pub record Example : Type 0 where
  pub one-stored : stored_form (volume_of one_at0 7 9) (set (replicate 4096 0) 0 1) ≡ one_block
  -- a slot beyond the size is not stored
  pub beyond : stored_form (volume_of one_at0 7 9) (set (set (replicate 4096 0) 0 1) 1 5) ≡ one_block
  pub one-loaded : (load_call (fresh_storage 1) one_block).answer ≡ gives (volume_of one_at0 0 1)
  pub last_stored : stored_form (volume_of seventeen 0 0) (set (replicate 8192 0) 4096 3) ≡ last_only
  pub last-loaded : (load_call (fresh_storage 2) last_only).answer ≡ gives (volume_of seventeen 0 1)
  pub cells-loaded : (load_call (fresh_storage 2) last_only).storage ≡ loaded_storage seventeen (entry_of 4096 3 ∷ [])
  pub wrong_length : (load_call (fresh_storage 1) last_only).answer ≡ refused 4
  -- what is in the output after the form keeps; one byte too short, the whole output does
  pub one-length : stored_length (volume_of one_at0 7 9) (set (replicate 4096 0) 0 1) ≡ gives 41
  pub one_kept : store_call (volume_of one_at0 7 9) (set (replicate 4096 0) 0 1) (replicate 42 5) ≡ storing_of (gives 41) (one_block ++ (5 ∷ []))
  pub one-short : store_call (volume_of one_at0 7 9) (set (replicate 4096 0) 0 1) (replicate 40 5) ≡ storing_of (refused 15) (replicate 40 5)
  -- 1 and 2 come before 14, 14 last
  pub too_many : (load_call (fresh_storage 1) many_alone).answer ≡ refused 1
  pub past_the_last : (load_call (fresh_storage 1) past_alone).answer ≡ refused 2
  pub wrong_digest : (load_call (fresh_storage 1) (set one_block 40 7)).answer ≡ refused 14
  pub wide-stored : form_of wide (entry_of 1049117 43981 ∷ []) ≡ wide_bytes
  pub wide-header : stored_header wide_bytes ≡ gives (volume_of wide 0 1)

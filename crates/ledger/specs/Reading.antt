-- The calls that are given some of the four and write none: document 01, 'The book behind the sums', and document 02, 2.2.
-- Each is a name here; its arguments, mask and panel list are any, and what it answers is its contract's. The reader
-- `ChangedChunks` and the walk `Solids` step as step_from and solid_from; `walk_changed` is walk_from, its list apart from the
-- four. Storing is given header and cells, and the bytes that it writes are apart from the four too. A `Formed` and a `View` are a
-- header, and one with its cells; `Storage::check` is storage_check. One that is given none of the four, as `stored_header`, needs
-- no name.
pub data Reading : Type 0 where
  origin : Reading
  chunks : Reading
  size : Reading
  last_of : Reading
  clamp : Reading
  chunk_count : Reading
  solid_count : Reading
  generation : Reading
  contains : Reading
  is_solid : Reading
  get : Reading
  chunk_at : Reading
  chunk_origin : Reading
  chunk_hash : Reading
  chunk_version : Reading
  chunk_versions : Reading
  digest : Reading
  changed_from : Reading
  step_from : Reading
  walk_from : Reading
  solid_from : Reading
  faces : Reading
  chunk_faces : Reading
  chunk_slice : Reading
  chunk_slots : Reading
  cells_code : Reading
  storage_code : Reading
  fold_shape : Reading
  formed : Reading
  view : Reading
  storage_check : Reading
  chunk_total : Reading
  corner_of : Reading
  store : Reading
  stored_length : Reading

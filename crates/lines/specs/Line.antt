-- A line of a text, and what reading it takes of the bytes that a reader has left, where those are known.
use Rattle.std.specs.Prelude.{◌≡◌, ◌≢◌, ◌<◌, ◌⊎◌, List, [], ◌∷◌, ◌++◌, ℕ, length, All, Option, Some, None, Result, Ok, Err}
use Rattle.std.specs.Borrow.{Bor}
use Rattle.std.specs.Io.KnownBytes.{Consumes, Keeps}

-- where the input ends after these bytes: they are a last line, if there are any
unfoldable pub last_line : List ℕ → Option (List ℕ)
last_line [] = None
last_line (b ∷ bs) = Some (b ∷ bs)

-- none of the bytes ends a line
abbrev pub HasNoEnd : List ℕ → Type 0
HasNoEnd bs = All (λ b. b ≢ 10) bs

-- the bytes and the end of a line behind them; or the bytes alone, if there are any
abbrev pub ConsumesLine : Option (List ℕ) → Option (List ℕ) → List ℕ → Type 0
ConsumesLine old new bs = Consumes old new (bs ++ 10 ∷ []) ⊎ ((0 < length bs) × Consumes old new bs)

-- a line that leaves room in a list of n entries; nothing at the end of the text; n bytes and no end where the list is full
abbrev pub ReadsLine : {E : Type 0} → Option (List ℕ) → Option (List ℕ) → ℕ → Result (Option (Bor (List ℕ))) E → Type 0
ReadsLine old new n (Ok (Some line)) = HasNoEnd line.now × (length line.now < n) × ConsumesLine old new line.now
ReadsLine old new n (Ok None) = Keeps old new
ReadsLine old new n (Err e) = (bs : List ℕ) × HasNoEnd bs × (length bs ≡ n) × Consumes old new bs

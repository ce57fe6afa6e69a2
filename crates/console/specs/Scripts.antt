-- How a script is cut.
use Rattle.std.specs.Prelude.{◌≡◌, ℕ, ◌+◌, ◌<◌, ◌≤◌, ◌⊎◌, List, [], ◌∷◌, ◌++◌, length, take, ◌≢◌, slice_index, Option, is_some, cond}

-- a line has no line feed in it
abbrev pub OneLine : List ℕ → Type 0
OneLine line = (k : ℕ) → k < length line → slice_index line k ≢ 10

-- the text is the line, its line feed and the rest; or it is the line alone
abbrev pub Cut : List ℕ → List ℕ → List ℕ → Type 0
Cut text line rest = OneLine line × ((text ≡ line ++ (10 ∷ rest)) ⊎ ((text ≡ line) × (rest ≡ [])))

-- a part of the text, from its front
abbrev pub Front : List ℕ → List ℕ → Type 0
Front text part = (n : ℕ) × (part ≡ take n text)

-- playing goes from what was to come of a script to what is: no more, and less where a store is still to be made
abbrev pub Goes : {A : Type 0} → List ℕ → Option A → List ℕ → Type 0
Goes before make after = length after + cond (is_some make) 1 0 ≤ length before

-- What is left of a written run, by the records of its sheet, the index of the next statement and the open levels.
use Rattle.std.specs.Prelude.{◌≡◌, ℕ, zero, suc, ◌+◌, ◌<◌, ◌≤◌, ◌⊎◌, List, [], ◌∷◌, ◌++◌, length, slice_index_or}
use Rattle.reader.specs.declared.types.Placed.{Placed}
use Rattle.reader.specs.declared.types.Statement.{Statement}
use Rattle.reader.specs.declared.types.Kind.{Kind}
use Rattle.reader.specs.declared.types.Kind.TheVariants.{Zero, Plus, Minus, Loop, While}
use Rattle.reader.specs.Sheet.{Sheet, then, while, depth}
use Rattle.reader.specs.WrittenRun.{times}
use Rattle.reader.specs.Checks.{at, span}
use Rattle.caption_box.specs.declared.rehearsal.walking.Level.{Level}
use Rattle.caption_box.specs.declared.rehearsal.walking.Position.{Position}

abbrev pub Recs : Type 0
Recs = List (Placed Statement)

abbrev pub level_of : ℕ → ℕ → Level
level_of h n = record { head = h; left = n }

-- the level of index d, the outermost having 0, and a zero level past the last
abbrev pub level_at : List Level → ℕ → Level
level_at ls d = slice_index_or ls d (level_of 0 0)

abbrev pub position_of : ℕ → List Level → Position
position_of i ls = record { at = i; levels = record { items = ls } }

-- the open levels, the outermost first, and how many there are
abbrev pub levels_of : Position → List Level
levels_of p = p.levels.items

abbrev pub depth_of : Position → ℕ
depth_of p = length (levels_of p)

-- the index after the innermost of d open bodies
abbrev pub body_end : Recs → List Level → ℕ → ℕ
body_end rs ls zero = length rs
body_end rs ls (suc d) = (at rs (level_at ls d).head).end

-- what comes behind a body that has ended: of a LOOP the rounds left and what is behind it, of a WHILE the same WHILE again
abbrev pub again : Kind → ℕ → Sheet → Sheet → Sheet → Sheet
again Zero n b same behind = behind
again Plus n b same behind = behind
again Minus n b same behind = behind
again Loop n b same behind = times n b behind
again While n b same behind = same

-- what is left before statement i, inside d open levels
unfoldable pub rest_in : Recs → List Level → ℕ → ℕ → Sheet
rest_in rs ls zero i = span rs i (length rs)
rest_in rs ls (suc d) i =
    then (span rs i (at rs (level_at ls d).head).end)
    (again (at rs (level_at ls d).head).kind (level_at ls d).left
    (span rs (suc (level_at ls d).head) (at rs (level_at ls d).head).end)
    (rest_in rs ls d (level_at ls d).head)
    (rest_in rs ls d (at rs (level_at ls d).head).end))

abbrev pub rest_of : Recs → Position → Sheet
rest_of rs p = rest_in rs (levels_of p) (depth_of p) p.at

-- LOOP and WHILE
abbrev pub Bodied : Kind → Type 0
Bodied Zero = ⊥
Bodied Plus = ⊥
Bodied Minus = ⊥
Bodied Loop = Unit {0}
Bodied While = Unit {0}

-- each open level is that of a LOOP or WHILE inside the levels around it, and there is room for those that are still to open
unfoldable pub Inside : Recs → List Level → ℕ → ℕ → Type 0
Inside rs ls zero i = depth (span rs i (length rs)) ≤ 8
Inside rs ls (suc d) i =
    (depth (span rs i (at rs (level_at ls d).head).end) + suc d ≤ 8)
    × ((level_at ls d).head < body_end rs ls d)
    × Bodied (at rs (level_at ls d).head).kind
    × Inside rs ls d (level_at ls d).head

-- a position before a statement of its innermost body, or at the end of all
pub record Stands (rs : Recs) (p : Position) : Type 0 where
  pub inside : Inside rs (levels_of p) (depth_of p) p.at
  pub before : (p.at < body_end rs (levels_of p) (depth_of p)) ⊎ ((depth_of p ≡ 0) × (p.at ≡ length rs))

-- a position before a statement of its innermost body
pub record Held (rs : Recs) (p : Position) : Type 0 where
  pub inside : Inside rs (levels_of p) (depth_of p) p.at
  pub before : p.at < body_end rs (levels_of p) (depth_of p)

-- a level opened at the position's statement, with n rounds left after the present one, and the position before its body
abbrev pub opened : Position → ℕ → Position
opened p n = position_of (suc p.at) (levels_of p ++ level_of p.at n ∷ [])

-- what a WHILE leaves, by what its register holds: b is its body, p what is behind it
abbrev pub leaves_while : ℕ → ℕ → Sheet → Sheet → Sheet
leaves_while zero i b p = p
leaves_while (suc v) i b p = then b (while i b p)

-- what a statement leaves, by what its source holds
abbrev pub leaves : Kind → ℕ → ℕ → Sheet → Sheet → Sheet
leaves Zero v i b p = p
leaves Plus v i b p = p
leaves Minus v i b p = p
leaves Loop v i b p = times v b p
leaves While v i b p = leaves_while v i b p

-- what is left once the position's statement and its body are done
abbrev pub rest_behind : Recs → Position → Sheet
rest_behind rs p = rest_in rs (levels_of p) (depth_of p) (at rs p.at).end

-- what is left after the step of the position's statement, whose source held v
abbrev pub rest_after : Recs → Position → ℕ → Sheet
rest_after rs p v = leaves (at rs p.at).kind v (at rs p.at).source (span rs (suc p.at) (at rs p.at).end) (rest_behind rs p)

-- the position q stands where that is left
pub record Reaches (rs : Recs) (q : Position) (rest : Sheet) : Type 0 where
  pub stands : Stands rs q
  pub left : rest_of rs q ≡ rest

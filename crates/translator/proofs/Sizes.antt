-- Sizes of flat forms and codes.
use Rattle.std.proofs.Common.{◌≡◌, ℕ, zero, suc, ◌+◌, ◌*◌, ◌≤◌, List, [], ◌∷◌, length, take, drop, sym, refl, ap, ◌∙◌, suc-mul, mul-suc, mul-add, arith, length-append, length-drop, length-take-le}
use Rattle.reader.specs.Sheet.{Sheet, done, plus, minus, loop, while, Some, Whole, size, depth, loops}
use Rattle.translator.specs.JumpCode.{halt}
use Rattle.translator.specs.Translation.{FlatSheet, flat_done, flat_plus, flat_minus, flat_while, flat_from, flat, flat_size, code_size, lay, flat_records_from, flat_places}
use Rattle.translator.specs.Counters.{inside_loop, behind_loop, behind_while, first_counter}
use Rattle.translator.specs.Sizes.{assignments, whiles, FlatSizeIsCounted, FlatHasAtMost320, CodeSizeIsCounted, CodeHasAtMost548}
use Rattle.translator.proofs.Laid.{lay-length}

pub flat_size-flat_from : (p : Sheet) (c : ℕ) → flat_size (flat_from c p) ≡ size p + 2 * loops p
flat_size-flat_from done c = refl
flat_size-flat_from (plus i j k p) c = let h = flat_size-flat_from p c in omega arith
flat_size-flat_from (minus i j k p) c = let h = flat_size-flat_from p c in omega arith
flat_size-flat_from (loop i b p) c = let h = flat_size-flat_from b (inside_loop c) in let g = flat_size-flat_from p (behind_loop c b) in omega arith
flat_size-flat_from (while i b p) c = let h = flat_size-flat_from b c in let g = flat_size-flat_from p (behind_while c b) in omega arith

pub records-length : (f : FlatSheet) (n : ℕ) → length (flat_records_from n f) ≡ flat_size f
records-length flat_done n = refl
records-length (flat_plus r i j k f) n = ap suc (records-length f (suc n))
records-length (flat_minus r i j k f) n = ap suc (records-length f (suc n))
records-length (flat_while r i b f) n =
    let eb = records-length b (suc n) in
    let ef = records-length f (suc n + flat_size b) in
    ap suc (length-append (flat_records_from (suc n) b) _ ∙ (λ i. eb i + ef i))

pub places_length : (p : Sheet) (xs : List ℕ) → length xs ≡ size p → length (flat_places p xs) ≡ size p + 2 * loops p
places_length done [] h = refl
places_length done (x ∷ xs) h = absurd (omega arith)
places_length (plus i j k p) [] h = absurd (omega arith)
places_length (plus i j k p) (x ∷ xs) h = let r = places_length p xs (omega arith) in omega arith
places_length (minus i j k p) [] h = absurd (omega arith)
places_length (minus i j k p) (x ∷ xs) h = let r = places_length p xs (omega arith) in omega arith
places_length (loop i b p) [] h = absurd (omega arith)
places_length (loop i b p) (x ∷ xs) h =
    let front = length-take-le (size b) xs (omega arith) in
    let back = length-drop (size b) xs in
    let r = places_length b (take (size b) xs) front in
    let q = places_length p (drop (size b) xs) (omega arith) in
    let both = length-append (flat_places b (take (size b) xs)) (flat_places p (drop (size b) xs)) in
    omega arith
places_length (while i b p) [] h = absurd (omega arith)
places_length (while i b p) (x ∷ xs) h =
    let front = length-take-le (size b) xs (omega arith) in
    let back = length-drop (size b) xs in
    let r = places_length b (take (size b) xs) front in
    let q = places_length p (drop (size b) xs) (omega arith) in
    let both = length-append (flat_places b (take (size b) xs)) (flat_places p (drop (size b) xs)) in
    omega arith

pub code_size-flat_from : (p : Sheet) (c : ℕ) → code_size (flat_from c p) ≡ assignments p + 4 * loops p + 2 * whiles p
code_size-flat_from done c = refl
code_size-flat_from (plus i j k p) c = let h = code_size-flat_from p c in omega arith
code_size-flat_from (minus i j k p) c = let h = code_size-flat_from p c in omega arith
code_size-flat_from (loop i b p) c = let h = code_size-flat_from b (inside_loop c) in let g = code_size-flat_from p (behind_loop c b) in omega arith
code_size-flat_from (while i b p) c = let h = code_size-flat_from b c in let g = code_size-flat_from p (behind_while c b) in omega arith

pub code_size_counted : CodeSizeIsCounted
code_size_counted p =
    let h = length-append (lay 1 (flat p)) (halt ∷ []) in
    let e = lay-length (flat p) 1 in
    let g = code_size-flat_from p first_counter in
    omega arith

-- assignments, LOOPs and WHILEs are all the statements
parts : (p : Sheet) → assignments p + loops p + whiles p ≡ size p
parts done = refl
parts (plus i j k p) = let h = parts p in omega arith
parts (minus i j k p) = let h = parts p in omega arith
parts (loop i b p) = let h = parts b in let g = parts p in omega arith
parts (while i b p) = let h = parts b in let g = parts p in omega arith

-- somewhere in a body stands an assignment
some_assignment : (p : Sheet) → Some p → Whole p → 1 ≤ assignments p
some_assignment done s w = absurd s
some_assignment (plus i j k p) s w = omega arith
some_assignment (minus i j k p) s w = omega arith
some_assignment (loop i b p) s w = let h = some_assignment b w.0 w.1 in omega arith
some_assignment (while i b p) s w = let h = some_assignment b w.0 w.1 in omega arith

more : (d a n : ℕ) → n ≤ d * a → n ≤ d * suc a
more d a n h = let e = mul-suc d a in omega arith

join : (d a b n m : ℕ) → 1 ≤ a → n ≤ d * a → m ≤ suc d * b → suc (n + m) ≤ suc d * (a + b)
join d a b n m one h g = let e = mul-add (suc d) a b in let f = suc-mul d a in omega arith

-- each assignment lies in at most d LOOPs and WHILEs, and each of those has an assignment in it
nests : (d : ℕ) (p : Sheet) → Whole p → depth p ≤ d → loops p + whiles p ≤ d * assignments p
nests d done w h = omega arith
nests d (plus i j k p) w h =
    more d (assignments p) (loops p + whiles p) (nests d p w h)
nests d (minus i j k p) w h =
    more d (assignments p) (loops p + whiles p) (nests d p w h)
nests zero (loop i b p) w h = absurd (omega arith)
nests (suc d) (loop i b p) w h =
    let one = some_assignment b w.0 w.1 in
    let r = nests d b w.1 (omega arith) in
    let g = nests (suc d) p w.2 (omega arith) in
    let all = join d (assignments b) (assignments p) (loops b + whiles b) (loops p + whiles p) one r g in
    omega arith
nests zero (while i b p) w h = absurd (omega arith)
nests (suc d) (while i b p) w h =
    let one = some_assignment b w.0 w.1 in
    let r = nests d b w.1 (omega arith) in
    let g = nests (suc d) p w.2 (omega arith) in
    let all = join d (assignments b) (assignments p) (loops b + whiles b) (loops p + whiles p) one r g in
    omega arith

pub code_at_most : CodeHasAtMost548
code_at_most p w h =
    let n = nests 8 p w h.shallow in
    let a = parts p in
    let f = h.few in
    let l = h.few_loops in
    let e = code_size_counted p in
    omega arith

pub flat_at_most : FlatHasAtMost320
flat_at_most p h =
    let e = records-length (flat p) 0 in
    let s = flat_size-flat_from p first_counter in
    let f = h.few in
    let l = h.few_loops in
    omega arith

pub flat_size_counted : FlatSizeIsCounted
flat_size_counted p =
    record {
      statements = flat_size-flat_from p first_counter;
      records = records-length (flat p) 0;
      places = λ xs h. places_length p xs h ∙ sym (flat_size-flat_from p first_counter);
    }

-- Bytes and symbols put on a page, one after another.
use Rattle.std.proofs.Common.{◌≡◌, ℕ, zero, suc, ◌+◌, ◌<◌, ◌≤◌, List, [], ◌∷◌, ◌++◌, length, drop, set, sym, refl, ap, ◌∙◌, append_assoc, add-zero, arith, length-append, length-drop}
use lib.Seq.{set_at}
use Rattle.reader.specs.Symbols.{Symbol}
use Rattle.reader.specs.Printed.{bytes_of, gap, text_on, text_of}
use Rattle.reader.specs.Pages.{Page, page_of, put_bytes, gap_after, put_symbols}

pub put_append : (xs ys : List ℕ) (g : Page) → put_bytes (xs ++ ys) g ≡ put_bytes ys (put_bytes xs g)
put_append [] ys g = refl
put_append (b ∷ xs) ys g = put_append xs ys (page_of (set g.memory g.written b) (suc g.written) g.lent)

pub put_count : (xs : List ℕ) (g : Page) → (put_bytes xs g).written ≡ g.written + length xs
put_count [] g = sym (add-zero g.written)
put_count (b ∷ xs) g = put_count xs (page_of (set g.memory g.written b) (suc g.written) g.lent) ∙ omega arith

pub bytes_room : (xs : List ℕ) (i : ℕ) (g h : Page) → i < length xs → put_bytes (drop i xs) g ≡ put_bytes xs h → h.written + length xs ≤ 65536 → g.written < 65536
bytes_room xs i g h lt e le =
    omega (arith, put_count (drop i xs) g, put_count xs h, ap (λ (p : Page). p.written) e, length-drop i xs)

pub symbols_append : (xs ys : List Symbol) (g : Page) → put_symbols (xs ++ ys) g ≡ put_symbols ys (put_symbols xs g)
symbols_append [] ys g = refl
symbols_append (s ∷ xs) ys g = symbols_append xs ys (put_bytes (gap_after g.written s ++ bytes_of s) g)

-- On a page that is long enough the bytes stand at the front, and the rest is as it was.
front_from : (xs pre m : List ℕ) (n l : ℕ) → length pre ≡ n → length xs ≤ length m → (put_bytes xs (page_of (pre ++ m) n l)).memory ≡ pre ++ (xs ++ drop (length xs) m)
front_from [] pre m n l e h = refl
front_from (x ∷ xs) pre [] n l e h = absurd (omega arith)
front_from (x ∷ xs) pre (y ∷ m) n l e h =
    let q : length (pre ++ (x ∷ [])) ≡ suc n = simp length-append (omega arith) in
    ap (λ (k : List ℕ). (put_bytes xs (page_of k (suc n) l)).memory) (set_at pre y m x n e ∙ sym (append_assoc pre (x ∷ []) m))
    ∙ front_from xs (pre ++ (x ∷ [])) m (suc n) l q (omega arith)
    ∙ append_assoc pre (x ∷ []) (xs ++ drop (length xs) m)

pub put_front : (xs m : List ℕ) (l : ℕ) → length xs ≤ length m → (put_bytes xs (page_of m 0 l)).memory ≡ xs ++ drop (length xs) m
put_front xs m l h = front_from xs [] m 0 l refl h

pub put-lent : (xs : List ℕ) (g : Page) → (put_bytes xs g).lent ≡ g.lent
put-lent [] g = refl
put-lent (b ∷ xs) g = put-lent xs (page_of (set g.memory g.written b) (suc g.written) g.lent)

-- The symbols on a page are their text.
gap-after : (n : ℕ) (s : Symbol) → 0 < n → gap_after n s ≡ gap s
gap-after zero s h = absurd (omega arith)
gap-after (suc n) s h = refl

text_on_page : (xs : List Symbol) (g : Page) → 0 < g.written → put_symbols xs g ≡ put_bytes (text_on xs) g
text_on_page [] g h = refl
text_on_page (s ∷ xs) g h =
    let a = gap s ++ bytes_of s in
    let e : put_bytes (gap_after g.written s ++ bytes_of s) g ≡ put_bytes (gap s ++ bytes_of s) g = ap (λ (l : List ℕ). put_bytes (l ++ bytes_of s) g) (gap-after g.written s h) in
    ap (put_symbols xs) e
    ∙ text_on_page xs (put_bytes a g) (omega (arith, put_count a g))
    ∙ sym (put_append a (text_on xs) g)
    ∙ ap (λ (l : List ℕ). put_bytes l g) (append_assoc (gap s) (bytes_of s) (text_on xs))

pub put_text : (s : Symbol) (xs : List Symbol) (m : List ℕ) (l : ℕ) → 0 < length (bytes_of s) → put_symbols (s ∷ xs) (page_of m 0 l) ≡ put_bytes (text_of (s ∷ xs)) (page_of m 0 l)
put_text s xs m l h =
    let g = page_of m 0 l in
    text_on_page xs (put_bytes (bytes_of s) g) (omega (arith, put_count (bytes_of s) g)) ∙ sym (put_append (bytes_of s) (text_on xs) g)

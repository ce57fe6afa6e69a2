-- Which token stands at a place of a text, and what is read there.
use Rattle.std.proofs.Common.{◌≡◌, ℕ, suc, ◌+◌, ◌<◌, ◌≤◌, T, List, [], ◌∷◌, ◌++◌, length, get_or, take, drop, Some, None, Ok, Err, codes, Option, Result, sym, refl, ap, ◌∙◌, subst, ◌⊎◌, inl, inr, ⊎_elim, arith, length-append, length-drop}
use Rattle.std.specs.Prelude.{MatchResult, IsErrAnd}
use Rattle.std.specs.Char.{is_ascii_alphanumeric}
use Rattle.std.proofs.lemmas.List.{drop_more, drop_all, drop-drop, drop_at, get_or-drop}
use Rattle.std.proofs.str.Laws.{order}
use Rattle.std.specs.List.{prefix_len, between}
use Rattle.std.specs.Option.{ok_or}
use Rattle.std.proofs.lemmas.Slice.{between_to_end}
use Rattle.std.proofs.lemmas.List.Sums.{prefix_len-le-length, prefix_len_stops}
use Rattle.std.proofs.lemmas.List.Folds.{length-prefix_len}
use Rattle.reader.specs.declared.types.Placed.{Placed}
use Rattle.reader.specs.declared.types.Refusal.{Refusal}
use Rattle.reader.specs.declared.types.Lexeme.{Lexeme}
use Rattle.reader.specs.declared.types.Token.{Token}
use Rattle.reader.specs.declared.types.Token.TheVariants as token
use Rattle.reader.specs.Refusals.{refusal_number}
use Rattle.reader.specs.Symbols.{Symbol, stray, PlacedSymbol, placed, Flaw}
use Rattle.reader.specs.Text.{Blank, Mark, mark_assign, mark_unequal, mark_plus, mark_minus, mark_semicolon, Means, Reads, the_end, a_mark, a_run, a_stray}
use Rattle.reader.specs.Lexing.{meant, Fine, WordTold, TokenTold, width, Sorted, Run, Front, Stands, MarkTold, is_blank, Between, Stray, TokenRead}
use Rattle.reader.proofs.Lexing.{not_both, true_of, not_blank, blanks_read, run_first, run_begins, no_run}
use Rattle.reader.proofs.Scanning.{scanned}

-- the symbols from a place on, whatever stands there
pub some_reading : (p : ℕ) (bs : List ℕ) → (ys : List PlacedSymbol) × Reads p bs ys
some_reading p bs = scanned (length bs) p bs (omega arith)

pub read_at_end : (text : List ℕ) (from place : ℕ) → Between text from place [] → length text ≤ place → Reads from (drop from text) []
read_at_end text from place b h = b [] (subst (λ (l : List ℕ). Reads place l []) (sym (drop_all place text h)) the_end)

-- how far the blanks from a place on go
module _ (text : List ℕ) (from n : ℕ) (e : n ≡ prefix_len is_blank (drop from text)) where
  pub skip_fits : (from + n ≤ length text) ⊎ (from + n ≡ from)
  skip_fits =
      let l = prefix_len-le-length is_blank (drop from text) in
      let d = length-drop from text in
      ⊎_elim (λ h. inl (omega arith)) (λ h. inr (omega arith)) (order from (length text))

  pub skipped : Between text from (from + n) []
  skipped zs r =
      let k = prefix_len is_blank (drop from text) in
      let t : drop (from + n) text ≡ drop k (drop from text) = sym (drop-drop k from text ∙ ap (λ m. drop (from + m) text) (sym e)) in
      blanks_read (drop from text) from zs (subst (λ m. Reads (from + m) (drop k (drop from text)) zs) e (subst (λ l. Reads (from + n) l zs) t r))

  pub skip_stops : from + n < length text → Blank (get_or text (from + n) 0) → ⊥
  skip_stops h b =
      let rest = drop from text in
      let k = prefix_len is_blank rest in
      let inside : k < length rest = simp length-drop (omega arith) in
      let at : get_or rest k 0 ≡ get_or text (from + n) 0 = get_or-drop from text k 0 ∙ ap (λ m. get_or text (from + m) 0) (sym e) in
      not_blank (prefix_len_stops is_blank rest 0 inside) (subst Blank (sym at) b)

-- the text from a place on
module _ (text : List ℕ) (place : ℕ) (inside : place < length text) where
  here : drop place text ≡ get_or text place 0 ∷ drop (place + 1) text
  here = drop_more text place 0 inside

  whole : between place (length text) text ≡ drop place text
  whole = between_to_end text place (length text) (omega arith)

  pub run_part : (n : ℕ) → n ≡ prefix_len is_ascii_alphanumeric (between place (length text) text) → 0 < n → Run (drop place text) (take n (between place (length text) text))
  run_part n e h =
      subst (λ l. Run (drop place text) (take n l)) (sym whole) (run_first (drop place text) n (e ∙ ap (prefix_len is_ascii_alphanumeric) whole) h)

  pub word_part : (n : ℕ) → T (is_ascii_alphanumeric (get_or text place 0)) → n ≡ prefix_len is_ascii_alphanumeric (between place (length text) text)
      → Run (drop place text) (take n (between place (length text) text)) × (n ≡ length (take n (between place (length text) text)))
  word_part n t e =
      let some = run_begins (get_or text place 0) (drop (place + 1) text) (true_of _ t) in
      let m : n ≡ prefix_len is_ascii_alphanumeric (get_or text place 0 ∷ drop (place + 1) text) = e ∙ ap (prefix_len is_ascii_alphanumeric) (whole ∙ here) in (
        run_part n e (omega arith),
        subst (λ k. k ≡ length (take k (between place (length text) text))) (sym e) (sym (length-prefix_len is_ascii_alphanumeric (between place (length text) text))),
      )

  pub mark_found : (o : Option Token) (e : Placed Refusal) (t : Token) → MarkTold (between place (length text) text) o → Ok t ≡ ok_or o e → Stands (drop place text) t × Sorted t
  mark_found None e t m k = let z : ◌≡◌ {A = ℕ} 0 1 = cc in absurd (omega arith)
  mark_found (Some u) e t m k =
      let same : u ≡ t = cc in
      subst (λ (t : Token). Stands (drop place text) t × Sorted t) same (subst (λ l. Stands l u) whole m.1, m.0)

  pub mark_missed : (o : Option Token) (e f : Placed Refusal) → MarkTold (between place (length text) text) o → ◌≡◌ {A = Result Token (Placed Refusal)} (Err f) (ok_or o e) → MarkTold (drop place text) None × (f ≡ e)
  mark_missed None e f m k = (subst (λ l. MarkTold l None) whole m, cc)
  mark_missed (Some u) e f m k = let z : ◌≡◌ {A = ℕ} 0 1 = cc in absurd (omega arith)

  pub stray_here : {from : ℕ} → Between text from place [] → (Blank (get_or text place 0) → ⊥) → 0 ≡ prefix_len is_ascii_alphanumeric (between place (length text) text) → MarkTold (drop place text) None → Stray text from place
  stray_here b f z m =
      let rest = some_reading (suc place) (drop (place + 1) text) in
      let g = no_run (get_or text place 0) (drop (place + 1) text) (sym (z ∙ ap (prefix_len is_ascii_alphanumeric) (whole ∙ here))) in (
        rest.0,
        b (placed place stray ∷ rest.0) (subst (λ (l : List ℕ). Reads place l (placed place stray ∷ rest.0)) (sym here)
            (a_stray f (λ h. not_both g h) (λ k r s mk q. m k r s mk (here ∙ q)) rest.1)),
      )

mark_fine : {m : List ℕ} {s : Symbol} → Mark m s → Fine s
mark_fine mark_assign = λ n f. elim f [ ]
mark_fine mark_unequal = λ n f. elim f [ ]
mark_fine mark_plus = λ n f. elim f [ ]
mark_fine mark_minus = λ n f. elim f [ ]
mark_fine mark_semicolon = λ n f. elim f [ ]

-- what a token at a place leaves to be read
rest_at : (text : List ℕ) (place : ℕ) (w rest : List ℕ) → drop place text ≡ w ++ rest → drop (place + length w) text ≡ rest
rest_at text place w rest e = sym (drop-drop (length w) place text) ∙ ap (drop (length w)) e ∙ drop_at w rest (length w) refl

module _ (text : List ℕ) (place : ℕ) where
  inside : (w rest : List ℕ) → 0 < length w → drop place text ≡ w ++ rest → place + length w ≤ length text
  inside w rest h e = omega (arith, simp (length-drop, length-append) at (ap length e))

  run_read : {s : Symbol} (w : List ℕ) → Run (drop place text) w → Means w s → Between text place (place + length w) (placed place s ∷ [])
  run_read [] r m zs k = absurd (omega (arith, r.some))
  run_read {s} (b ∷ w) r m zs k =
      subst (λ (l : List ℕ). Reads place l (placed place s ∷ zs)) (sym r.split)
      (a_run w r.rest r.alnum r.stops m (subst (λ (l : List ℕ). Reads (place + suc (length w)) l zs) (rest_at text place (b ∷ w) r.rest r.split) k))

  mark_read : {s : Symbol} (m : List ℕ) → Mark m s → Front m (drop place text) → Between text place (place + length m) (placed place s ∷ [])
  mark_read {s} m h f zs k =
      subst (λ (l : List ℕ). Reads place l (placed place s ∷ zs)) (sym f.1)
      (a_mark m f.0 h (subst (λ (l : List ℕ). Reads (place + length m) l zs) (rest_at text place m f.0 f.1) k))

  said : {l k : Lexeme} → ◌≡◌ {A = Result Lexeme Refusal} (Ok l) (Ok k) → l ≡ k
  said e = cc

  unsaid : {f : Refusal} {k : Lexeme} → ◌≡◌ {A = Result Lexeme Refusal} (Err f) (Ok k) → ⊥
  unsaid e = let z : ◌≡◌ {A = ℕ} 0 1 = cc in omega arith

  mark_told : {k l : Lexeme} (m : List ℕ) → Mark m (meant k) → Front m (drop place text) → ◌≡◌ {A = Result Lexeme Refusal} (Ok l) (Ok k) → Between text place (place + length m) (placed place (meant l) ∷ []) × Fine (meant l)
  mark_told {k} {l} m h f e =
      subst (λ (x : Lexeme). Between text place (place + length m) (placed place (meant x) ∷ []) × Fine (meant x)) (sym (said e)) (mark_read m h f, mark_fine h)

  -- the symbol of a token
  pub token_read : (t : Token) (l : Lexeme) → Stands (drop place text) t → TokenTold t (Ok l) → Between text place (place + width t) (placed place (meant l) ∷ []) × Fine (meant l)
  token_read (token.Word w) l r h = (run_read w.now r h.0, h.1)
  token_read (token.Number w) l r h = (run_read w.now r h.0, h.1)
  token_read token.Assign l f e = mark_told (codes ":=") mark_assign f e
  token_read token.Unequal l f e = mark_told (codes "!=") mark_unequal f e
  token_read token.Plus l f e = mark_told (codes "+") mark_plus f e
  token_read token.Minus l f e = mark_told (codes "-") mark_minus f e
  token_read token.Semicolon l f e = mark_told (codes ";") mark_semicolon f e

  abbrev Flawed : Refusal → Type 0
  Flawed f = (s : Symbol) × (zs : List PlacedSymbol) × Reads place (drop place text) (placed place s ∷ zs) × Flaw s (refusal_number f)

  run_flawed : (f : Refusal) (w : List ℕ) → Run (drop place text) w → WordTold w (Err f) → Flawed f
  run_flawed f w r h = let rest = some_reading (place + length w) (drop (place + length w) text) in (h.0, rest.0, run_read w r h.1 rest.0 rest.1, h.2)

  -- a flawed token
  pub token_flawed : (t : Token) (f : Refusal) → Stands (drop place text) t → TokenTold t (Err f) → Flawed f
  token_flawed (token.Word w) g r h = run_flawed g w.now r h
  token_flawed (token.Number w) g r h = run_flawed g w.now r h
  token_flawed token.Assign g f e = absurd (unsaid e)
  token_flawed token.Unequal g f e = absurd (unsaid e)
  token_flawed token.Plus g f e = absurd (unsaid e)
  token_flawed token.Minus g f e = absurd (unsaid e)
  token_flawed token.Semicolon g f e = absurd (unsaid e)

-- what a token says, where a refusal is told with its place
pub told_placed : (place : ℕ) (t : Token) (k : Result Lexeme Refusal) (r : Result Lexeme (Placed Refusal)) → TokenTold t k → MatchResult k (λ x. r ≡ Ok x) (λ f. IsErrAnd r (λ e. e ≡ placed place f)) → MatchResult r (λ l. TokenTold t (Ok l)) (λ e. (e.place ≡ place) × TokenTold t (Err e.item))
told_placed place t (Ok x) r h m = subst (λ r. MatchResult r (λ l. TokenTold t (Ok l)) (λ e. (e.place ≡ place) × TokenTold t (Err e.item))) (sym m) h
told_placed place t (Err f) (Ok l) h m = absurd m
told_placed place t (Err f) (Err e) h m =
    (ap (λ (e : Placed Refusal). e.place) m, subst (λ f. TokenTold t (Err f)) (sym (ap (λ (e : Placed Refusal). e.item) m)) h)

pub token_found : (text : List ℕ) (from : ℕ) (found : Option (Placed Token)) (t : Placed Token) → found ≡ Some t → TokenRead text from (Ok found) → TokenRead text from (Ok (Some t))
token_found text from found t e r = subst (λ (f : Option (Placed Token)). TokenRead text from (Ok f)) e r

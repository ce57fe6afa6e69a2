-- The machine that decides: what may follow, how many levels are open, and the two counts.
use Rattle.std.specs.Prelude.{ℕ, zero, suc, ◌+◌, ◌<◌, List, [], ◌∷◌}
use Rattle.std.proofs.Math.Decide.{ℕ_discrete, dec_lt}
use Rattle.reader.specs.Symbols.{Symbol, LOOP, WHILE, DO, END, number, register, assign, unequal, plus_sign, minus_sign, semicolon, stray, strange, PlacedSymbol, Flaw, stray_byte, strange_word, big_number, big_register, Opens, opens_loop, opens_while, IsLoop, is_loop, separating, looping}

-- what may follow
pub data Expect : Type 0 where
  statement : Expect
  becomes : Expect  -- the := of an assignment
  source : Expect
  sign : Expect
  constant : Expect
  loop_register : Expect
  loop_do : Expect
  while_register : Expect
  while_unequal : Expect
  while_zero : Expect
  while_do : Expect
  more : Expect  -- a semicolon, an END, or the text's end

-- one symbol on, with the levels open before and after it
pub data Step : Expect → Symbol → ℕ → Expect → ℕ → Type 0 where
  to_target : {d i : ℕ} → Step statement (register i) d becomes d
  to_loop : {d : ℕ} → Step statement LOOP d loop_register (suc d)
  to_while : {d : ℕ} → Step statement WHILE d while_register (suc d)
  to_assign : {d : ℕ} → Step becomes assign d source d
  to_source : {d j : ℕ} → Step source (register j) d sign d
  to_plus : {d : ℕ} → Step sign plus_sign d constant d
  to_minus : {d : ℕ} → Step sign minus_sign d constant d
  to_constant : {d c : ℕ} → Step constant (number c) d more d
  to_loop_register : {d i : ℕ} → Step loop_register (register i) d loop_do d
  to_loop_do : {d : ℕ} → Step loop_do DO d statement d
  to_while_register : {d i : ℕ} → Step while_register (register i) d while_unequal d
  to_unequal : {d : ℕ} → Step while_unequal unequal d while_zero d
  to_zero : {d : ℕ} → Step while_zero (number 0) d while_do d
  to_while_do : {d : ℕ} → Step while_do DO d statement d
  to_next : {d : ℕ} → Step more semicolon d statement d
  to_end : {d : ℕ} → Step more END (suc d) more d

-- the step that the machine takes, or that there is none
pub data Next (e : Expect) (d : ℕ) (s : Symbol) : Type 0 where
  goes : {e' : Expect} {d' : ℕ} → Step e s d e' d' → Next e d s
  stuck : ((e' : Expect) (d' : ℕ) → Step e s d e' d' → ⊥) → Next e d s

abbrev pub next? : (e : Expect) (d : ℕ) (s : Symbol) → Next e d s
next? statement d LOOP = goes to_loop
next? statement d WHILE = goes to_while
next? statement d DO = stuck (λ e' d' h. elim h [ ])
next? statement d END = stuck (λ e' d' h. elim h [ ])
next? statement d (number c) = stuck (λ e' d' h. elim h [ ])
next? statement d (register i) = goes to_target
next? statement d assign = stuck (λ e' d' h. elim h [ ])
next? statement d unequal = stuck (λ e' d' h. elim h [ ])
next? statement d plus_sign = stuck (λ e' d' h. elim h [ ])
next? statement d minus_sign = stuck (λ e' d' h. elim h [ ])
next? statement d semicolon = stuck (λ e' d' h. elim h [ ])
next? statement d stray = stuck (λ e' d' h. elim h [ ])
next? statement d strange = stuck (λ e' d' h. elim h [ ])
next? becomes d LOOP = stuck (λ e' d' h. elim h [ ])
next? becomes d WHILE = stuck (λ e' d' h. elim h [ ])
next? becomes d DO = stuck (λ e' d' h. elim h [ ])
next? becomes d END = stuck (λ e' d' h. elim h [ ])
next? becomes d (number c) = stuck (λ e' d' h. elim h [ ])
next? becomes d (register i) = stuck (λ e' d' h. elim h [ ])
next? becomes d assign = goes to_assign
next? becomes d unequal = stuck (λ e' d' h. elim h [ ])
next? becomes d plus_sign = stuck (λ e' d' h. elim h [ ])
next? becomes d minus_sign = stuck (λ e' d' h. elim h [ ])
next? becomes d semicolon = stuck (λ e' d' h. elim h [ ])
next? becomes d stray = stuck (λ e' d' h. elim h [ ])
next? becomes d strange = stuck (λ e' d' h. elim h [ ])
next? source d LOOP = stuck (λ e' d' h. elim h [ ])
next? source d WHILE = stuck (λ e' d' h. elim h [ ])
next? source d DO = stuck (λ e' d' h. elim h [ ])
next? source d END = stuck (λ e' d' h. elim h [ ])
next? source d (number c) = stuck (λ e' d' h. elim h [ ])
next? source d (register i) = goes to_source
next? source d assign = stuck (λ e' d' h. elim h [ ])
next? source d unequal = stuck (λ e' d' h. elim h [ ])
next? source d plus_sign = stuck (λ e' d' h. elim h [ ])
next? source d minus_sign = stuck (λ e' d' h. elim h [ ])
next? source d semicolon = stuck (λ e' d' h. elim h [ ])
next? source d stray = stuck (λ e' d' h. elim h [ ])
next? source d strange = stuck (λ e' d' h. elim h [ ])
next? sign d LOOP = stuck (λ e' d' h. elim h [ ])
next? sign d WHILE = stuck (λ e' d' h. elim h [ ])
next? sign d DO = stuck (λ e' d' h. elim h [ ])
next? sign d END = stuck (λ e' d' h. elim h [ ])
next? sign d (number c) = stuck (λ e' d' h. elim h [ ])
next? sign d (register i) = stuck (λ e' d' h. elim h [ ])
next? sign d assign = stuck (λ e' d' h. elim h [ ])
next? sign d unequal = stuck (λ e' d' h. elim h [ ])
next? sign d plus_sign = goes to_plus
next? sign d minus_sign = goes to_minus
next? sign d semicolon = stuck (λ e' d' h. elim h [ ])
next? sign d stray = stuck (λ e' d' h. elim h [ ])
next? sign d strange = stuck (λ e' d' h. elim h [ ])
next? constant d LOOP = stuck (λ e' d' h. elim h [ ])
next? constant d WHILE = stuck (λ e' d' h. elim h [ ])
next? constant d DO = stuck (λ e' d' h. elim h [ ])
next? constant d END = stuck (λ e' d' h. elim h [ ])
next? constant d (number c) = goes to_constant
next? constant d (register i) = stuck (λ e' d' h. elim h [ ])
next? constant d assign = stuck (λ e' d' h. elim h [ ])
next? constant d unequal = stuck (λ e' d' h. elim h [ ])
next? constant d plus_sign = stuck (λ e' d' h. elim h [ ])
next? constant d minus_sign = stuck (λ e' d' h. elim h [ ])
next? constant d semicolon = stuck (λ e' d' h. elim h [ ])
next? constant d stray = stuck (λ e' d' h. elim h [ ])
next? constant d strange = stuck (λ e' d' h. elim h [ ])
next? loop_register d LOOP = stuck (λ e' d' h. elim h [ ])
next? loop_register d WHILE = stuck (λ e' d' h. elim h [ ])
next? loop_register d DO = stuck (λ e' d' h. elim h [ ])
next? loop_register d END = stuck (λ e' d' h. elim h [ ])
next? loop_register d (number c) = stuck (λ e' d' h. elim h [ ])
next? loop_register d (register i) = goes to_loop_register
next? loop_register d assign = stuck (λ e' d' h. elim h [ ])
next? loop_register d unequal = stuck (λ e' d' h. elim h [ ])
next? loop_register d plus_sign = stuck (λ e' d' h. elim h [ ])
next? loop_register d minus_sign = stuck (λ e' d' h. elim h [ ])
next? loop_register d semicolon = stuck (λ e' d' h. elim h [ ])
next? loop_register d stray = stuck (λ e' d' h. elim h [ ])
next? loop_register d strange = stuck (λ e' d' h. elim h [ ])
next? loop_do d LOOP = stuck (λ e' d' h. elim h [ ])
next? loop_do d WHILE = stuck (λ e' d' h. elim h [ ])
next? loop_do d DO = goes to_loop_do
next? loop_do d END = stuck (λ e' d' h. elim h [ ])
next? loop_do d (number c) = stuck (λ e' d' h. elim h [ ])
next? loop_do d (register i) = stuck (λ e' d' h. elim h [ ])
next? loop_do d assign = stuck (λ e' d' h. elim h [ ])
next? loop_do d unequal = stuck (λ e' d' h. elim h [ ])
next? loop_do d plus_sign = stuck (λ e' d' h. elim h [ ])
next? loop_do d minus_sign = stuck (λ e' d' h. elim h [ ])
next? loop_do d semicolon = stuck (λ e' d' h. elim h [ ])
next? loop_do d stray = stuck (λ e' d' h. elim h [ ])
next? loop_do d strange = stuck (λ e' d' h. elim h [ ])
next? while_register d LOOP = stuck (λ e' d' h. elim h [ ])
next? while_register d WHILE = stuck (λ e' d' h. elim h [ ])
next? while_register d DO = stuck (λ e' d' h. elim h [ ])
next? while_register d END = stuck (λ e' d' h. elim h [ ])
next? while_register d (number c) = stuck (λ e' d' h. elim h [ ])
next? while_register d (register i) = goes to_while_register
next? while_register d assign = stuck (λ e' d' h. elim h [ ])
next? while_register d unequal = stuck (λ e' d' h. elim h [ ])
next? while_register d plus_sign = stuck (λ e' d' h. elim h [ ])
next? while_register d minus_sign = stuck (λ e' d' h. elim h [ ])
next? while_register d semicolon = stuck (λ e' d' h. elim h [ ])
next? while_register d stray = stuck (λ e' d' h. elim h [ ])
next? while_register d strange = stuck (λ e' d' h. elim h [ ])
next? while_unequal d LOOP = stuck (λ e' d' h. elim h [ ])
next? while_unequal d WHILE = stuck (λ e' d' h. elim h [ ])
next? while_unequal d DO = stuck (λ e' d' h. elim h [ ])
next? while_unequal d END = stuck (λ e' d' h. elim h [ ])
next? while_unequal d (number c) = stuck (λ e' d' h. elim h [ ])
next? while_unequal d (register i) = stuck (λ e' d' h. elim h [ ])
next? while_unequal d assign = stuck (λ e' d' h. elim h [ ])
next? while_unequal d unequal = goes to_unequal
next? while_unequal d plus_sign = stuck (λ e' d' h. elim h [ ])
next? while_unequal d minus_sign = stuck (λ e' d' h. elim h [ ])
next? while_unequal d semicolon = stuck (λ e' d' h. elim h [ ])
next? while_unequal d stray = stuck (λ e' d' h. elim h [ ])
next? while_unequal d strange = stuck (λ e' d' h. elim h [ ])
next? while_zero d LOOP = stuck (λ e' d' h. elim h [ ])
next? while_zero d WHILE = stuck (λ e' d' h. elim h [ ])
next? while_zero d DO = stuck (λ e' d' h. elim h [ ])
next? while_zero d END = stuck (λ e' d' h. elim h [ ])
next? while_zero d (number zero) = goes to_zero
next? while_zero d (number (suc c)) = stuck (λ e' d' h. elim h [ ])
next? while_zero d (register i) = stuck (λ e' d' h. elim h [ ])
next? while_zero d assign = stuck (λ e' d' h. elim h [ ])
next? while_zero d unequal = stuck (λ e' d' h. elim h [ ])
next? while_zero d plus_sign = stuck (λ e' d' h. elim h [ ])
next? while_zero d minus_sign = stuck (λ e' d' h. elim h [ ])
next? while_zero d semicolon = stuck (λ e' d' h. elim h [ ])
next? while_zero d stray = stuck (λ e' d' h. elim h [ ])
next? while_zero d strange = stuck (λ e' d' h. elim h [ ])
next? while_do d LOOP = stuck (λ e' d' h. elim h [ ])
next? while_do d WHILE = stuck (λ e' d' h. elim h [ ])
next? while_do d DO = goes to_while_do
next? while_do d END = stuck (λ e' d' h. elim h [ ])
next? while_do d (number c) = stuck (λ e' d' h. elim h [ ])
next? while_do d (register i) = stuck (λ e' d' h. elim h [ ])
next? while_do d assign = stuck (λ e' d' h. elim h [ ])
next? while_do d unequal = stuck (λ e' d' h. elim h [ ])
next? while_do d plus_sign = stuck (λ e' d' h. elim h [ ])
next? while_do d minus_sign = stuck (λ e' d' h. elim h [ ])
next? while_do d semicolon = stuck (λ e' d' h. elim h [ ])
next? while_do d stray = stuck (λ e' d' h. elim h [ ])
next? while_do d strange = stuck (λ e' d' h. elim h [ ])
next? more d LOOP = stuck (λ e' d' h. elim h [ ])
next? more d WHILE = stuck (λ e' d' h. elim h [ ])
next? more d DO = stuck (λ e' d' h. elim h [ ])
next? more zero END = stuck (λ e' d' h. elim h [ ])
next? more (suc d) END = goes to_end
next? more d (number c) = stuck (λ e' d' h. elim h [ ])
next? more d (register i) = stuck (λ e' d' h. elim h [ ])
next? more d assign = stuck (λ e' d' h. elim h [ ])
next? more d unequal = stuck (λ e' d' h. elim h [ ])
next? more d plus_sign = stuck (λ e' d' h. elim h [ ])
next? more d minus_sign = stuck (λ e' d' h. elim h [ ])
next? more d semicolon = goes to_next
next? more d stray = stuck (λ e' d' h. elim h [ ])
next? more d strange = stuck (λ e' d' h. elim h [ ])

-- what is wrong with the symbol by itself, or that nothing is
pub data Look (s : Symbol) : Type 0 where
  flaw : (n : ℕ) → Flaw s n → Look s
  fine : ((n : ℕ) → Flaw s n → ⊥) → Look s

pub only_big_number : (c : ℕ) → (999999 < c → ⊥) → (n : ℕ) → Flaw (number c) n → ⊥
only_big_number c f n (big_number h) = f h

pub only_big_register : (i : ℕ) → (31 < i → ⊥) → (n : ℕ) → Flaw (register i) n → ⊥
only_big_register i f n (big_register h) = f h

abbrev pub look_number : (c : ℕ) → Dec (999999 < c) → Look (number c)
look_number c (yes h) = flaw 4 (big_number h)
look_number c (no f) = fine (only_big_number c f)

abbrev pub look_register : (i : ℕ) → Dec (31 < i) → Look (register i)
look_register i (yes h) = flaw 4 (big_register h)
look_register i (no f) = fine (only_big_register i f)

abbrev pub look : (s : Symbol) → Look s
look LOOP = fine (λ n h. elim h [ ])
look WHILE = fine (λ n h. elim h [ ])
look DO = fine (λ n h. elim h [ ])
look END = fine (λ n h. elim h [ ])
look (number c) = look_number c (dec_lt 999999 c)
look (register i) = look_register i (dec_lt 31 i)
look assign = fine (λ n h. elim h [ ])
look unequal = fine (λ n h. elim h [ ])
look plus_sign = fine (λ n h. elim h [ ])
look minus_sign = fine (λ n h. elim h [ ])
look semicolon = fine (λ n h. elim h [ ])
look stray = flaw 2 stray_byte
look strange = flaw 3 strange_word

-- a LOOP or WHILE
abbrev pub opens? : (s : Symbol) → Dec (Opens s)
opens? LOOP = yes opens_loop
opens? WHILE = yes opens_while
opens? DO = no (λ h. elim h [ ])
opens? END = no (λ h. elim h [ ])
opens? (number c) = no (λ h. elim h [ ])
opens? (register i) = no (λ h. elim h [ ])
opens? assign = no (λ h. elim h [ ])
opens? unequal = no (λ h. elim h [ ])
opens? plus_sign = no (λ h. elim h [ ])
opens? minus_sign = no (λ h. elim h [ ])
opens? semicolon = no (λ h. elim h [ ])
opens? stray = no (λ h. elim h [ ])
opens? strange = no (λ h. elim h [ ])

-- a LOOP
abbrev pub loop? : (s : Symbol) → Dec (IsLoop s)
loop? LOOP = yes is_loop
loop? WHILE = no (λ h. elim h [ ])
loop? DO = no (λ h. elim h [ ])
loop? END = no (λ h. elim h [ ])
loop? (number c) = no (λ h. elim h [ ])
loop? (register i) = no (λ h. elim h [ ])
loop? assign = no (λ h. elim h [ ])
loop? unequal = no (λ h. elim h [ ])
loop? plus_sign = no (λ h. elim h [ ])
loop? minus_sign = no (λ h. elim h [ ])
loop? semicolon = no (λ h. elim h [ ])
loop? stray = no (λ h. elim h [ ])
loop? strange = no (λ h. elim h [ ])

-- a statement begins here
pub data Begun : Expect → Type 0 where
  begun : Begun statement

-- whether one does
abbrev pub begun? : (e : Expect) → Dec (Begun e)
begun? statement = yes begun
begun? becomes = no (λ h. elim h [ ])
begun? source = no (λ h. elim h [ ])
begun? sign = no (λ h. elim h [ ])
begun? constant = no (λ h. elim h [ ])
begun? loop_register = no (λ h. elim h [ ])
begun? loop_do = no (λ h. elim h [ ])
begun? while_register = no (λ h. elim h [ ])
begun? while_unequal = no (λ h. elim h [ ])
begun? while_zero = no (λ h. elim h [ ])
begun? while_do = no (λ h. elim h [ ])
begun? more = no (λ h. elim h [ ])

abbrev pub both? : {A B : Type 0} → Dec A → Dec B → Dec (A × B)
both? (yes a) (yes b) = yes (a, b)
both? (yes a) (no g) = no (λ h. g h.1)
both? (no f) b = no (λ h. f h.0)

pub data Verdict : Type 0 where
  accepted : Verdict
  refused : ℕ → ℕ → Verdict  -- the number and the place

-- 6 too deep, then 7 too many statements or LOOPs, then on
abbrev pub limited : {D S L : Type 0} → ℕ → Dec D → Dec S → Dec L → Verdict → Verdict
limited p (yes d) s l v = refused 6 p
limited p (no d) (yes s) l v = refused 7 p
limited p (no d) (no s) (yes l) v = refused 7 p
limited p (no d) (no s) (no l) v = v

-- the symbol's own flaw, then 5 where the machine has no step, then the limits
abbrev pub decide : {e : Expect} {d : ℕ} {s : Symbol} {D S L : Type 0} → ℕ → Look s → Next e d s → Dec D → Dec S → Dec L → (Expect → ℕ → Verdict) → Verdict
decide p (flaw n f) x d s l on = refused n p
decide p (fine f) (stuck g) d s l on = refused 5 p
decide p (fine f) (goes {e'} {d'} h) d s l on = limited p d s l (on e' d')

-- at the text's end: accepted where a statement is over and no level is open
abbrev pub finish : ℕ → Expect → ℕ → Verdict
finish end statement d = refused 5 end
finish end becomes d = refused 5 end
finish end source d = refused 5 end
finish end sign d = refused 5 end
finish end constant d = refused 5 end
finish end loop_register d = refused 5 end
finish end loop_do d = refused 5 end
finish end while_register d = refused 5 end
finish end while_unequal d = refused 5 end
finish end while_zero d = refused 5 end
finish end while_do d = refused 5 end
finish end more zero = accepted
finish end more (suc d) = refused 5 end

-- e may follow, d levels are open, n semicolons and DOs and m LOOPs were passed; the text ends at the place `end`
unfoldable pub judge : ℕ → Expect → ℕ → ℕ → ℕ → List PlacedSymbol → Verdict
judge end e d n m [] = finish end e d
judge end e d n m (y ∷ ys) =
    decide y.place (look y.item) (next? e d y.item)
    (both? (opens? y.item) (ℕ_discrete d 8))
    (both? (begun? e) (ℕ_discrete n 256))
    (both? (loop? y.item) (ℕ_discrete m 32))
    (λ e' d'. judge end e' d' (n + separating y.item) (m + looping y.item) ys)

-- the verdict on symbols
abbrev pub verdict : ℕ → List PlacedSymbol → Verdict
verdict end ys = judge end statement 0 0 0 ys

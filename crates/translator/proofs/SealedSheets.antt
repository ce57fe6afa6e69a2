-- The code of a sheet within the limits can be sealed.
use Rattle.std.proofs.Common.{ℕ, suc, ◌≤◌, T, ltb, leb, List, length, get_or, arith, eqb→eq, ltb→lt, lt→ltb, leb→le}
use Rattle.translator.specs.declared.types.Role.TheVariants as role
use Rattle.translator.specs.declared.types.Operation.{Operation}
use Rattle.translator.specs.declared.types.Operation.TheVariants.{Halt, Plus, Minus, If, Goto}
use Rattle.translator.specs.declared.types.Instruction.{Instruction}
use Rattle.translator.specs.JumpCode.{halt, fits, inside, AllFit}
use Rattle.translator.specs.Drafts.{is_open}
use Rattle.translator.specs.Seals.{AnyOpen}
use Rattle.translator.specs.SealedSheets.{SheetIsSealed}
use Rattle.translator.proofs.Fits.{and_true, and_left, and_right}
use Rattle.translator.proofs.Filing.{elem_get_or}
use Rattle.translator.proofs.Width.{code_whole}

wider : (n m i : ℕ) → n ≤ m → T (ltb i n) → T (ltb i m)
wider n m i h t = let l = ltb→lt i n t in lt→ltb i m (omega arith)

-- what fits n registers fits more
fits_more : (n m len : ℕ) (o : Operation) → n ≤ m → T (fits n len o) → T (fits m len o)
fits_more n m len Halt h t = tt
fits_more n m len (Plus i j c) h t = and_true (ltb i m) (ltb j m) (wider n m i h (and_left (ltb i n) (ltb j n) t)) (wider n m j h (and_right (ltb i n) (ltb j n) t))
fits_more n m len (Minus i j c) h t = and_true (ltb i m) (ltb j m) (wider n m i h (and_left (ltb i n) (ltb j n) t)) (wider n m j h (and_right (ltb i n) (ltb j n) t))
fits_more n m len (If i k) h t = and_true (ltb i m) (inside len k) (wider n m i h (and_left (ltb i n) (inside len k) t)) (and_right (ltb i n) (inside len k) t)
fits_more n m len (Goto k) h t = t

-- what fits is not open
fits-aimed : (n len : ℕ) (o : Operation) → T (fits n len o) → T (is_open o) → ⊥
fits-aimed n len Halt t e = e
fits-aimed n len (Plus i j c) t e = e
fits-aimed n len (Minus i j c) t e = e
fits-aimed n len (If i k) t e =
    let low = leb→le 1 k (and_left (leb 1 k) (leb k len) (and_right (ltb i n) (inside len k) t)) in
    let none = eqb→eq k 0 e in
    omega arith
fits-aimed n len (Goto k) t e = e

pub fits_closed : (n : ℕ) (c : List Instruction) → AllFit n c → AnyOpen c → ⊥
fits_closed n c h o = fits-aimed n (length c) (get_or c o.0 halt).operation (h (suc o.0) (get_or c o.0 halt) (elem_get_or c o.0 halt o.1.0)) o.1.1

pub sheet_sealed : SheetIsSealed
sheet_sealed p h =
    let w = code_whole p h in
    (fits_closed _ _ w.fits, record { last = (role.Halt, w.last); fits = λ l x e. fits_more _ 64 _ x.operation w.narrow (w.fits l x e) })

-- A sheet that meets the bounds.
use Rattle.std.proofs.Common.{ℕ, zero, suc, refl, arith, lit≤}
use Rattle.reader.specs.Sheet.{Sheet, Some, Whole, Fit}
use Rattle.reader.specs.WrittenRun.{times}
use Rattle.reader.proofs.Spelled.{whole_then}
use Rattle.reader.proofs.Counts.{fit_then}
use Rattle.translator.specs.Sizes.{loop_nest, while_nest, Fullest}

whole_times : (n : ℕ) (b q : Sheet) → Whole b → Whole q → Whole (times n b q)
whole_times zero b q h g = g
whole_times (suc n) b q h g = whole_then b (times n b q) h (whole_times n b q h g)

pub fit_times : (n : ℕ) (b q : Sheet) → Fit b → Fit q → Fit (times n b q)
fit_times zero b q h g = g
fit_times (suc n) b q h g = fit_then b (times n b q) h (fit_times n b q h g)

some-loops : (n : ℕ) → Some (loop_nest n)
some-loops zero = tt
some-loops (suc n) = tt

some-whiles : (n : ℕ) → Some (while_nest n)
some-whiles zero = tt
some-whiles (suc n) = tt

whole_loops : (n : ℕ) → Whole (loop_nest n)
whole_loops zero = tt
whole_loops (suc n) = (some-loops n, whole_loops n, tt)

whole_whiles : (n : ℕ) → Whole (while_nest n)
whole_whiles zero = tt
whole_whiles (suc n) = (some-whiles n, whole_whiles n, tt)

fit_loops : (n : ℕ) → Fit (loop_nest n)
fit_loops zero = (omega arith, omega arith, omega arith, tt)
fit_loops (suc n) = (omega arith, fit_loops n, tt)

fit_whiles : (n : ℕ) → Fit (while_nest n)
fit_whiles zero = (omega arith, omega arith, omega arith, tt)
fit_whiles (suc n) = (omega arith, fit_whiles n, tt)

pub bounds_met : Fullest
bounds_met =
    record {
      whole = whole_times 4 (loop_nest 8) (times 24 (while_nest 8) (while_nest 3)) (whole_loops 8) (whole_times 24 (while_nest 8) (while_nest 3) (whole_whiles 8) (whole_whiles 3));
      within = record {
        fit = fit_times 4 (loop_nest 8) (times 24 (while_nest 8) (while_nest 3)) (fit_loops 8) (fit_times 24 (while_nest 8) (while_nest 3) (fit_whiles 8) (fit_whiles 3));
        shallow = lit≤ tt;
        few = lit≤ tt;
        few_loops = lit≤ tt;
      };
      flats = refl;
      code = refl;
    }

use Rattle.std.proofs.Common.{◌+◌, ◌-◌, ◌*◌, ◌<◌, sym, refl, ap, ◌∙◌, subst, arith}
use Rattle.stores.specs.Decimals.{count_of, decimals, Digits, unused}
use Rattle.stores.proofs.SixDigits.{decimals-length, put_six, put-digits, put-decimals, put-unused, decimals_sound}
use Rattle.stores.proofs.decimal.DecimalStore.put.Goals as goal

pub overflow_mul-at : goal.overflow_mul-at
overflow_mul-at c = omega (arith, decimals-length c.args.self.now.bytes.now)

pub overflow_add-at : goal.overflow_add-at
overflow_add-at c = omega (arith, decimals-length c.args.self.now.bytes.now)

pub slice_bounds-copy_from_slice-end : goal.slice_bounds-copy_from_slice-end
slice_bounds-copy_from_slice-end c = omega (arith, decimals-length c.args.self.now.bytes.now)

pub invariant_of-self : goal.invariant_of-self
invariant_of-self c =
    let bytes = c.args.self.now.bytes.now in
    let lt : c.args.i < count_of bytes = omega (arith, decimals-length bytes) in
    let memory = put_six bytes (6 * c.args.i) (6 * c.args.i + 6 - 6 * c.args.i) c.args.v c.copy_from_slice.new.self (omega arith) (c.copy_from_slice.ensures.after ∙ c.digits_of.ensures) (omega arith) in
    let digits = subst Digits (sym memory) (put-digits bytes (6 * c.args.i) c.args.v c.requires.1 c.args.self.now.digits) in
    record { digits = digits; fits = decimals_sound _ digits }

pub returns : goal.returns
returns c =
    let bytes = c.args.self.now.bytes.now in
    let lt : c.args.i < count_of bytes = omega (arith, decimals-length bytes) in
    let memory = put_six bytes (6 * c.args.i) (6 * c.args.i + 6 - 6 * c.args.i) c.args.v c.copy_from_slice.new.self (omega arith) (c.copy_from_slice.ensures.after ∙ c.digits_of.ensures) (omega arith) in
    record {
      numbers = ap decimals memory ∙ put-decimals bytes c.args.i c.args.v lt c.requires.1;
      memory = memory;
      rest = ap unused memory ∙ put-unused bytes c.args.i c.args.v lt;
      lent = refl;
    }

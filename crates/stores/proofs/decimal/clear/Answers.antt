use Rattle.std.proofs.Common.{◌*◌, sym, ap, ◌∙◌, subst, arith}
use Rattle.stores.specs.Decimals.{count_of, decimals, Digits}
use Rattle.stores.proofs.Clearing.{filled}
use Rattle.stores.proofs.SixDigits.{digits-cleared, decimals-cleared, decimals_sound}
use Rattle.stores.proofs.decimal.clear.Goals as goal

pub returns : goal.returns
returns c =
    let bytes = c.args.bytes.now in
    let memory = filled c.fill.new.self bytes (6 * c.count_in-n.result) (6 * count_of bytes) (ap (λ n. 6 * n) c.count_in-n.ensures) (omega arith) (c.fill.ensures.after (λ y e. e)) in
    let digits = subst Digits (sym memory) (digits-cleared bytes) in
    record { digits = digits; fits = decimals_sound _ digits; zero = ap decimals memory ∙ decimals-cleared bytes; memory = memory }

-- A window over a window is one window.
use Rattle.std.proofs.Common.{◌≡◌, ℕ, ◌+◌, ◌-◌, ◌^◌, ◌<◌, min, List, length, get_or, drop, sym, ap, ◌∙◌, arith, length-drop, length-take, get_or-drop, get_or-take, ext_get_or}
use Rattle.stores.specs.Windows.{seen}
use Rattle.console.specs.Views.{Composed}

length_seen : (ns : List ℕ) (base len : ℕ) → length (seen ns base len) ≡ min len (length ns - base)
unfolding seen
length_seen ns base len = length-take len (drop base ns) ∙ ap (min len) (length-drop base ns)

at_seen : (ns : List ℕ) (base len i : ℕ) → i < len → get_or (seen ns base len) i 0 ≡ get_or ns (base + i) 0
unfolding seen
at_seen ns base len i lt = get_or-take len (drop base ns) i 0 lt ∙ get_or-drop base ns i 0

pub composed : (base₁ len₁ base₂ len₂ base len : ℕ) → base ≡ min (base₁ + base₂) (2 ^ 64 - 1) → len ≡ min len₂ (len₁ - base₂) → Composed base₁ len₁ base₂ len₂ base len
composed base₁ len₁ base₂ len₂ base len b l ns fits =
    ext_get_or 0 (seen ns base len) (seen (seen ns base₁ len₁) base₂ len₂)
    (omega (arith, length_seen ns base len, length_seen (seen ns base₁ len₁) base₂ len₂, length_seen ns base₁ len₁, b, l, fits))
    (λ i h.
    let short : i < min len (length ns - base) = omega (arith, h, length_seen ns base len) in
    let same : base + i ≡ base₁ + (base₂ + i) = omega (arith, b, fits, short) in
    at_seen ns base len i (omega (arith, short)) ∙ ap (λ (k : ℕ). get_or ns k 0) same ∙ sym (at_seen ns base₁ len₁ (base₂ + i) (omega (arith, short, l))) ∙ sym (at_seen (seen ns base₁ len₁) base₂ len₂ i (omega (arith, short, l))))

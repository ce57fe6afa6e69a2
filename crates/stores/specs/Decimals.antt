-- Numbers that stand as six decimal digits in six bytes, the highest digit first.
use Rattle.std.specs.Prelude.{ℕ, ◌+◌, ◌*◌, ◌/◌, ◌%◌, ◌<◌, ◌≤◌, min, cond, List, map, length, drop, nat_le, nat_lt, slice_index, slice_set}
use Rattle.std.specs.List.{range_with_len}

-- the number whose digits begin at byte p
abbrev pub value_at : List ℕ → ℕ → ℕ
value_at bytes p =
    slice_index bytes p * 100000 + slice_index bytes (p + 1) * 10000 + slice_index bytes (p + 2) * 1000 + slice_index bytes (p + 3) * 100 + slice_index bytes (p + 4) * 10 + slice_index bytes (p + 5)

-- the bytes with the digits of v put from byte p on
abbrev pub put_at : List ℕ → ℕ → ℕ → List ℕ
put_at bytes p v =
    slice_set (slice_set (slice_set (slice_set (slice_set (slice_set bytes p (v / 100000)) (p + 1) (v / 10000 % 10)) (p + 2) (v / 1000 % 10)) (p + 3) (v / 100 % 10)) (p + 4) (v / 10 % 10)) (p + 5) (v % 10)

-- how many numbers the bytes hold: 4,096 at most
abbrev pub count_of : List ℕ → ℕ
count_of bytes = min 4096 (length bytes / 6)

-- the numbers
unfoldable pub decimals : List ℕ → List ℕ
decimals bytes = map (λ i. value_at bytes (6 * i)) (range_with_len 0 (count_of bytes))

-- each byte of a number is a digit
abbrev pub Digits : List ℕ → Type 0
Digits bytes = (k : ℕ) → k < 6 * count_of bytes → slice_index bytes k ≤ 9

-- the bytes that belong to no number
abbrev pub unused : List ℕ → List ℕ
unused bytes = drop (6 * count_of bytes) bytes

-- the bytes after a write of v at i: the six of number i hold the digits of v, or all are as they were
abbrev pub bytes_written : List ℕ → ℕ → ℕ → List ℕ
bytes_written bytes i v = cond (nat_lt i (length (decimals bytes))) (cond (nat_le v 999999) (put_at bytes (6 * i) v) bytes) bytes

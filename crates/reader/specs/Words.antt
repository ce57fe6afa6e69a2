-- The word at a place of a text.
use Rattle.std.specs.Prelude.{◌≡◌, ℕ, ◌-◌, ◌<◌, min, T, List, [], length, drop, slice_index}
use Rattle.std.specs.Char.{is_ascii_alphanumeric}
use Rattle.reader.specs.declared.types.Word.{Word}
use Rattle.reader.specs.Lexing.{Run}

-- a word begins at the place: a letter or digit stands there, and none before it
pub record WordBegins (text : List ℕ) (place : ℕ) : Type 0 where
  pub inside : place < length text
  pub alnum : T (is_ascii_alphanumeric (slice_index text place))
  pub alone : 0 < place → T (is_ascii_alphanumeric (slice_index text (place - 1))) → ⊥

-- the word at the place, or an empty one where none begins, which lies in the text too
pub data WordFound (text : List ℕ) (place : ℕ) (w : Word) : Type 0 where
  a_word : WordBegins text place → Run (drop place text) w.bytes.now → w.start ≡ place → w.length ≡ length w.bytes.now → WordFound text place w
  no_word : (WordBegins text place → ⊥) → w.bytes.now ≡ [] → w.start ≡ min place (length text) → w.length ≡ 0 → WordFound text place w

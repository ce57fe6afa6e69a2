-- The number and the words of each refusal.
use Rattle.std.specs.Prelude.{ℕ, List, codes}
use Rattle.reader.specs.declared.types.Refusal.{Refusal}
use Rattle.reader.specs.declared.types.Refusal.TheVariants.{Overlong, StrayByte, StrangeWord, TooBig, OutOfOrder, TooDeep, TooMany, TreeFull, NoSheet, FlatFull, CodeFull, JumpOpen, NotOpen, BadDraft, PageFull, NoRegister, OverTop, SmallStore, ManyInputs, LongTick, LongShow}

abbrev pub refusal_number : Refusal → ℕ
refusal_number Overlong = 1
refusal_number StrayByte = 2
refusal_number StrangeWord = 3
refusal_number TooBig = 4
refusal_number OutOfOrder = 5
refusal_number TooDeep = 6
refusal_number TooMany = 7
refusal_number TreeFull = 8
refusal_number NoSheet = 9
refusal_number FlatFull = 11
refusal_number CodeFull = 12
refusal_number JumpOpen = 13
refusal_number NotOpen = 14
refusal_number BadDraft = 15
refusal_number PageFull = 16
refusal_number NoRegister = 21
refusal_number OverTop = 22
refusal_number SmallStore = 31
refusal_number ManyInputs = 32
refusal_number LongTick = 33
refusal_number LongShow = 34

abbrev pub refusal_words : Refusal → List ℕ
refusal_words Overlong = codes "overlong"
refusal_words StrayByte = codes "stray byte"
refusal_words StrangeWord = codes "strange word"
refusal_words TooBig = codes "too big"
refusal_words OutOfOrder = codes "out of order"
refusal_words TooDeep = codes "too deep"
refusal_words TooMany = codes "too many"
refusal_words TreeFull = codes "tree full"
refusal_words NoSheet = codes "no sheet"
refusal_words FlatFull = codes "flat full"
refusal_words CodeFull = codes "code full"
refusal_words JumpOpen = codes "jump open"
refusal_words NotOpen = codes "not open"
refusal_words BadDraft = codes "bad draft"
refusal_words PageFull = codes "page full"
refusal_words NoRegister = codes "no register"
refusal_words OverTop = codes "over top"
refusal_words SmallStore = codes "small store"
refusal_words ManyInputs = codes "many inputs"
refusal_words LongTick = codes "long tick"
refusal_words LongShow = codes "long show"

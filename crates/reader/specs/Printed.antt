-- The printed form of a sheet.
use Rattle.std.specs.Prelude.{ℕ, List, [], ◌∷◌, ◌++◌, codes, decimal}
use Rattle.reader.specs.Sheet.{Sheet, done, plus, minus, loop, while}
use Rattle.reader.specs.Symbols.{Symbol, LOOP, WHILE, DO, END, number, register, assign, unequal, plus_sign, minus_sign, semicolon, stray, strange}

-- a semicolon and the symbols of the rest, unless nothing rests
abbrev pub and_then : Sheet → List Symbol → List Symbol
and_then done xs = []
and_then (plus i j c p) xs = semicolon ∷ xs
and_then (minus i j c p) xs = semicolon ∷ xs
and_then (loop i b p) xs = semicolon ∷ xs
and_then (while i b p) xs = semicolon ∷ xs

-- the symbols of a sheet
abbrev pub spelling : Sheet → List Symbol
spelling done = []
spelling (plus i j c p) = register i ∷ assign ∷ register j ∷ plus_sign ∷ number c ∷ and_then p (spelling p)
spelling (minus i j c p) = register i ∷ assign ∷ register j ∷ minus_sign ∷ number c ∷ and_then p (spelling p)
spelling (loop i b p) = LOOP ∷ register i ∷ DO ∷ (spelling b ++ (END ∷ and_then p (spelling p)))
spelling (while i b p) = WHILE ∷ register i ∷ unequal ∷ number 0 ∷ DO ∷ (spelling b ++ (END ∷ and_then p (spelling p)))

-- the bytes of a symbol; numbers are in base ten without leading zeros
abbrev pub bytes_of : Symbol → List ℕ
bytes_of LOOP = codes "LOOP"
bytes_of WHILE = codes "WHILE"
bytes_of DO = codes "DO"
bytes_of END = codes "END"
bytes_of (number c) = decimal c
bytes_of (register i) = 120 ∷ decimal i
bytes_of assign = codes ":="
bytes_of unequal = codes "!="
bytes_of plus_sign = codes "+"
bytes_of minus_sign = codes "-"
bytes_of semicolon = codes ";"
bytes_of stray = []
bytes_of strange = []

-- what stands before a symbol that is not the first: one space, and nothing before a semicolon
abbrev pub gap : Symbol → List ℕ
gap LOOP = 32 ∷ []
gap WHILE = 32 ∷ []
gap DO = 32 ∷ []
gap END = 32 ∷ []
gap (number c) = 32 ∷ []
gap (register i) = 32 ∷ []
gap assign = 32 ∷ []
gap unequal = 32 ∷ []
gap plus_sign = 32 ∷ []
gap minus_sign = 32 ∷ []
gap semicolon = []
gap stray = 32 ∷ []
gap strange = 32 ∷ []

-- the text of symbols behind others
abbrev pub text_on : List Symbol → List ℕ
text_on [] = []
text_on (s ∷ xs) = gap s ++ (bytes_of s ++ text_on xs)

abbrev pub text_of : List Symbol → List ℕ
text_of [] = []
text_of (s ∷ xs) = bytes_of s ++ text_on xs

abbrev pub printed : Sheet → List ℕ
printed p = text_of (spelling p)

-- The words of the listing and of the campaign sheet, as octets.
use Rattle.std.specs.Prelude.{List, [], ◌∷◌, ℕ}

abbrev pub refused : List ℕ
refused = 114 ∷ 101 ∷ 102 ∷ 117 ∷ 115 ∷ 101 ∷ 100 ∷ []

abbrev pub verdict : List ℕ
verdict = 118 ∷ 101 ∷ 114 ∷ 100 ∷ 105 ∷ 99 ∷ 116 ∷ []

abbrev pub amount : List ℕ
amount = 97 ∷ 109 ∷ 111 ∷ 117 ∷ 110 ∷ 116 ∷ []

abbrev pub horizon : List ℕ
horizon = 104 ∷ 111 ∷ 114 ∷ 105 ∷ 122 ∷ 111 ∷ 110 ∷ []

abbrev pub row : List ℕ
row = 114 ∷ 111 ∷ 119 ∷ []

abbrev pub links : List ℕ
links = 108 ∷ 105 ∷ 110 ∷ 107 ∷ 115 ∷ []

abbrev pub rate : List ℕ
rate = 114 ∷ 97 ∷ 116 ∷ 101 ∷ []

abbrev pub first : List ℕ
first = 102 ∷ 105 ∷ 114 ∷ 115 ∷ 116 ∷ []

abbrev pub departures : List ℕ
departures = 100 ∷ 101 ∷ 112 ∷ 97 ∷ 114 ∷ 116 ∷ 117 ∷ 114 ∷ 101 ∷ 115 ∷ []

abbrev pub cut : List ℕ
cut = 99 ∷ 117 ∷ 116 ∷ []

abbrev pub bound : List ℕ
bound = 98 ∷ 111 ∷ 117 ∷ 110 ∷ 100 ∷ []

abbrev pub blocks : List ℕ
blocks = 98 ∷ 108 ∷ 111 ∷ 99 ∷ 107 ∷ 115 ∷ []

abbrev pub total : List ℕ
total = 116 ∷ 111 ∷ 116 ∷ 97 ∷ 108 ∷ []

abbrev pub space : ℕ
space = 32

-- "each line ends with 0A"
abbrev pub line_end : ℕ
line_end = 10

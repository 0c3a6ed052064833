-- What laws speak of: the lines of a small dictionary of five rows.
use Prim.Native.String.{String}
use Rattle.std.specs.Prelude.{ℕ, List, [], ◌∷◌, codes, encode_utf8_all}

-- the bytes of a text
abbrev pub bytes_of : String → List ℕ
bytes_of text = encode_utf8_all (codes text)

-- a line for each of the five rows
abbrev pub five_lines : List (List ℕ)
five_lines = bytes_of "測 100 ㄘㄜˋ" ∷ (bytes_of "策 200 ㄘㄜˋ" ∷ (bytes_of "是 9000 ㄕˋ" ∷ (bytes_of "試 300 ㄕˋ"
    ∷ (bytes_of "測試 9318 ㄘㄜˋ ㄕˋ" ∷ []))))

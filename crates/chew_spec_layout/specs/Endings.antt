-- The endings of Hanyu Pinyin, with `v` for ü. Which of them are accepted is this project's own.
use Rattle.std.specs.Prelude.{List, [], ◌∷◌, codes}
use Rattle.chew_spec_layout.specs.Spelling.{Spelling, spelled}

-- endings without a medial
unfoldable pub endings_a : List Spelling
endings_a =
    spelled (codes "a") (codes "ㄚ")
    ∷ spelled (codes "o") (codes "ㄛ")
    ∷ spelled (codes "e") (codes "ㄜ")
    ∷ spelled (codes "ai") (codes "ㄞ")
    ∷ spelled (codes "ei") (codes "ㄟ")
    ∷ spelled (codes "ao") (codes "ㄠ")
    ∷ spelled (codes "ou") (codes "ㄡ")
    ∷ spelled (codes "an") (codes "ㄢ")
    ∷ spelled (codes "en") (codes "ㄣ")
    ∷ spelled (codes "ang") (codes "ㄤ")
    ∷ spelled (codes "eng") (codes "ㄥ")
    ∷ []

-- endings with ㄧ
unfoldable pub endings_i : List Spelling
endings_i =
    spelled (codes "i") (codes "ㄧ")
    ∷ spelled (codes "ia") (codes "ㄧㄚ")
    ∷ spelled (codes "ie") (codes "ㄧㄝ")
    ∷ spelled (codes "iao") (codes "ㄧㄠ")
    ∷ spelled (codes "iu") (codes "ㄧㄡ")
    ∷ spelled (codes "ian") (codes "ㄧㄢ")
    ∷ spelled (codes "in") (codes "ㄧㄣ")
    ∷ spelled (codes "iang") (codes "ㄧㄤ")
    ∷ spelled (codes "ing") (codes "ㄧㄥ")
    ∷ []

-- endings with ㄨ
unfoldable pub endings_u : List Spelling
endings_u =
    spelled (codes "u") (codes "ㄨ")
    ∷ spelled (codes "ua") (codes "ㄨㄚ")
    ∷ spelled (codes "uo") (codes "ㄨㄛ")
    ∷ spelled (codes "uai") (codes "ㄨㄞ")
    ∷ spelled (codes "ui") (codes "ㄨㄟ")
    ∷ spelled (codes "uan") (codes "ㄨㄢ")
    ∷ spelled (codes "un") (codes "ㄨㄣ")
    ∷ spelled (codes "uang") (codes "ㄨㄤ")
    ∷ spelled (codes "ong") (codes "ㄨㄥ")
    ∷ []

-- endings in ㄩ behind ㄋ and ㄌ, which have ㄨ too
unfoldable pub endings_v : List Spelling
endings_v =
    spelled (codes "v") (codes "ㄩ")
    ∷ spelled (codes "ve") (codes "ㄩㄝ")
    ∷ spelled (codes "ue") (codes "ㄩㄝ")
    ∷ []

-- endings in ㄩ behind ㄐ, ㄑ and ㄒ, which have no ㄨ
unfoldable pub endings_yu : List Spelling
endings_yu =
    spelled (codes "iong") (codes "ㄩㄥ")
    ∷ spelled (codes "u") (codes "ㄩ")
    ∷ spelled (codes "ue") (codes "ㄩㄝ")
    ∷ spelled (codes "uan") (codes "ㄩㄢ")
    ∷ spelled (codes "un") (codes "ㄩㄣ")
    ∷ []

-- the ending of an initial that is a syllable by itself, which adds no mark
unfoldable pub ending_bare : List Spelling
ending_bare = spelled (codes "i") [] ∷ []

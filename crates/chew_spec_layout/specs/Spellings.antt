-- The spellings of Hanyu Pinyin: each is a syllable without its tone. Which of them are accepted is this project's own.
use Rattle.std.specs.Prelude.{ℕ, List, [], ◌∷◌, ◌++◌, codes, find, bytes_eq, Option}
use Rattle.chew_spec_layout.specs.Spelling.{Spelling, spelled, combined}
use Rattle.chew_spec_layout.specs.Endings.{endings_a, endings_i, endings_u, endings_v, endings_yu, ending_bare}

-- spellings without an initial
unfoldable pub alone : List Spelling
alone =
    spelled (codes "a") (codes "ㄚ")
    ∷ spelled (codes "o") (codes "ㄛ")
    ∷ spelled (codes "e") (codes "ㄜ")
    ∷ spelled (codes "ai") (codes "ㄞ")
    ∷ spelled (codes "ei") (codes "ㄟ")
    ∷ spelled (codes "ao") (codes "ㄠ")
    ∷ spelled (codes "ou") (codes "ㄡ")
    ∷ spelled (codes "an") (codes "ㄢ")
    ∷ spelled (codes "en") (codes "ㄣ")
    ∷ spelled (codes "ang") (codes "ㄤ")
    ∷ spelled (codes "eng") (codes "ㄥ")
    ∷ spelled (codes "er") (codes "ㄦ")
    ∷ spelled (codes "yi") (codes "ㄧ")
    ∷ spelled (codes "ya") (codes "ㄧㄚ")
    ∷ spelled (codes "yo") (codes "ㄧㄛ")
    ∷ spelled (codes "ye") (codes "ㄧㄝ")
    ∷ spelled (codes "yao") (codes "ㄧㄠ")
    ∷ spelled (codes "you") (codes "ㄧㄡ")
    ∷ spelled (codes "yan") (codes "ㄧㄢ")
    ∷ spelled (codes "yin") (codes "ㄧㄣ")
    ∷ spelled (codes "yang") (codes "ㄧㄤ")
    ∷ spelled (codes "ying") (codes "ㄧㄥ")
    ∷ spelled (codes "wu") (codes "ㄨ")
    ∷ spelled (codes "wa") (codes "ㄨㄚ")
    ∷ spelled (codes "wo") (codes "ㄨㄛ")
    ∷ spelled (codes "wai") (codes "ㄨㄞ")
    ∷ spelled (codes "wei") (codes "ㄨㄟ")
    ∷ spelled (codes "wan") (codes "ㄨㄢ")
    ∷ spelled (codes "wen") (codes "ㄨㄣ")
    ∷ spelled (codes "wang") (codes "ㄨㄤ")
    ∷ spelled (codes "weng") (codes "ㄨㄥ")
    ∷ spelled (codes "yu") (codes "ㄩ")
    ∷ spelled (codes "yue") (codes "ㄩㄝ")
    ∷ spelled (codes "yuan") (codes "ㄩㄢ")
    ∷ spelled (codes "yun") (codes "ㄩㄣ")
    ∷ spelled (codes "yong") (codes "ㄩㄥ")
    ∷ []

-- the initials that take the endings of all three kinds
unfoldable pub plain_initials : List Spelling
plain_initials =
    spelled (codes "b") (codes "ㄅ")
    ∷ spelled (codes "p") (codes "ㄆ")
    ∷ spelled (codes "m") (codes "ㄇ")
    ∷ spelled (codes "f") (codes "ㄈ")
    ∷ spelled (codes "d") (codes "ㄉ")
    ∷ spelled (codes "t") (codes "ㄊ")
    ∷ spelled (codes "g") (codes "ㄍ")
    ∷ spelled (codes "k") (codes "ㄎ")
    ∷ spelled (codes "h") (codes "ㄏ")
    ∷ []

-- the initials that take ㄩ too
unfoldable pub n_initials : List Spelling
n_initials =
    spelled (codes "n") (codes "ㄋ")
    ∷ spelled (codes "l") (codes "ㄌ")
    ∷ []

-- the initials before ㄧ and ㄩ alone
unfoldable pub palatal_initials : List Spelling
palatal_initials =
    spelled (codes "j") (codes "ㄐ")
    ∷ spelled (codes "q") (codes "ㄑ")
    ∷ spelled (codes "x") (codes "ㄒ")
    ∷ []

-- the initials that are syllables by themselves
unfoldable pub bare_initials : List Spelling
bare_initials =
    spelled (codes "zh") (codes "ㄓ")
    ∷ spelled (codes "ch") (codes "ㄔ")
    ∷ spelled (codes "sh") (codes "ㄕ")
    ∷ spelled (codes "r") (codes "ㄖ")
    ∷ spelled (codes "z") (codes "ㄗ")
    ∷ spelled (codes "c") (codes "ㄘ")
    ∷ spelled (codes "s") (codes "ㄙ")
    ∷ []

-- all spellings
unfoldable pub spellings : List Spelling
spellings =
    alone ++ (combined plain_initials (endings_a ++ (endings_i ++ endings_u))
    ++ (combined n_initials (endings_a ++ (endings_i ++ (endings_u ++ endings_v)))
    ++ (combined palatal_initials (endings_i ++ endings_yu)
    ++ combined bare_initials (endings_a ++ (endings_u ++ ending_bare)))))

-- the spelling that the held letters are, where they are one
unfoldable pub spelling_of : List ℕ → Option Spelling
spelling_of held = find (λ spelling. bytes_eq spelling.letters held) spellings

-- A phrase: 1 to 11 characters in UTF-8. The limit is this project's own.
use Rattle.std.specs.Prelude.{ℕ, zero, suc, Bool, not, ◌&&◌, List, length, take, nat_le, nat_lt, chars, if◌then◌else◌}
use Rattle.std.specs.Str.{is_utf8}
use Rattle.std.specs.List.{list_all}
use Rattle.std.specs.Char.{is_whitespace}

-- a character that may stand in a phrase: from U+00A1 on, and no white space (Unicode's White_Space)
abbrev pub is_allowed : ℕ → Bool
is_allowed character = nat_le 0xA1 character && not (is_whitespace character)

-- at most 11 allowed characters
abbrev pub begins_phrase : List ℕ → Bool
begins_phrase text = is_utf8 text && (list_all is_allowed (chars text) && nat_le (length (chars text)) 11)

-- the longest such front of a text that has at most this many bytes
abbrev pub front_up_to : List ℕ → ℕ → ℕ
front_up_to text zero = 0
front_up_to text (suc n) = if begins_phrase (take (suc n) text) then suc n else front_up_to text n

-- where the front of at most 11 allowed characters ends: the place of the first character that isn't
-- UTF-8, isn't allowed or is the twelfth, or the text's end
unfoldable pub phrase_end : List ℕ → ℕ
phrase_end text = front_up_to text (length text)

-- 1 to 11 allowed characters, and nothing else
unfoldable pub is_phrase : List ℕ → Bool
is_phrase text = nat_lt 0 (length text) && begins_phrase text

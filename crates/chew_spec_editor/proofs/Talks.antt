-- Talks that follow one another.
use Rattle.std.specs.Prelude.{◌≡◌, ◌+◌, ◌≤◌, ◌<◌, suc, List, [], ◌∷◌, ◌++◌, length, take, drop, Option, Some, None}
use Rattle.std.specs.Option.{option_map_or}
use Rattle.std.proofs.Common.{refl, ap, sym, subst, ◌∙◌, arith, append_assoc, length-append, length-drop}
use Rattle.std.proofs.lemmas.List.{drop-append-le, drop-drop}
use Rattle.chew_spec_syllable.specs.Row.{Row}
use Rattle.chew_spec_layout.specs.Layout.{cleared, new_layout}
use Rattle.chew_spec_dictionary.specs.Call.{Call, Reply}
use Rattle.chew_spec_text.specs.KeyStroke.{KeyStroke}
use Rattle.chew_spec_text.specs.Line.{Line}
use Rattle.chew_spec_editor.specs.Editor.{Editor, empty_editor, line_of}
use Rattle.chew_spec_editor.specs.Settings.{Settings}
use Rattle.chew_spec_editor.specs.Keys.{calls_asked, press}
use Rattle.chew_spec_editor.specs.Talk.{Talk, Turn, after_key, followed, handled, silence, talk_from, turn_of}
use Rattle.chew_spec_editor.proofs.Feeding.{cleared-new}
use Rattle.chew_spec_editor.proofs.Turns.{turn_of-kind, turn_of-line, turn_of-enough, turn_of-few, turn_of-more}

-- the talk over the keys behind one that had this turn
abbrev pub talk_behind : List Row → List KeyStroke → List Reply → Turn → Talk
talk_behind system keys replies turn = talk_from system turn.editor keys (drop (length turn.calls) replies)

-- the talk over a key whose turn is this, and the keys behind it
abbrev pub talk_with : List Row → Editor → List KeyStroke → List Reply → Option Turn → Talk
talk_with system editor keys replies turn =
    option_map_or (λ t. after_key t.calls t.line (talk_behind system keys replies t)) turn (silence editor replies)

-- a key before two talks
after_key-followed : (calls : List Call) (line : Line) (talk next : Talk) → after_key calls line (followed talk next) ≡ followed (after_key calls line talk) next
after_key-followed calls line talk next = rw append_assoc

-- the talk over the keys from this editor is all handled, and the talk over all keys is that one and then the rest's
abbrev Joins : List Row → Editor → List KeyStroke → List KeyStroke → List Reply → Type 0
Joins system editor keys more replies =
    let first = talk_from system editor keys replies in
    handled first ≡ length keys
    → talk_from system editor (keys ++ more) replies ≡ followed first (talk_from system first.editor more first.replies)

joined-step : (system : List Row) (editor : Editor) (keys more : List KeyStroke) (replies : List Reply) (turn : Option Turn)
    → ((t : Turn) → Joins system t.editor keys more (drop (length t.calls) replies))
    → handled (talk_with system editor keys replies turn) ≡ suc (length keys)
    → talk_with system editor (keys ++ more) replies turn
    ≡ followed (talk_with system editor keys replies turn)
    (talk_from system (talk_with system editor keys replies turn).editor more (talk_with system editor keys replies turn).replies)
joined-step system editor keys more replies None rest h = absurd (omega arith)
joined-step system editor keys more replies (Some t) rest h =
    let first : Talk = talk_behind system keys replies t in
    ap (after_key t.calls t.line) (rest t (omega arith))
    ∙ after_key-followed t.calls t.line first (talk_from system first.editor more first.replies)

pub joined : (system : List Row) (editor : Editor) (keys more : List KeyStroke) (replies : List Reply)
    → Joins system editor keys more replies
unfolding talk_from
joined system editor [] more replies h = refl
joined system editor (key ∷ keys) more replies h =
    joined-step system editor keys more replies (turn_of system editor key replies)
    (λ t. joined system t.editor keys more (drop (length t.calls) replies)) h

-- a talk that stopped is the talk over more keys too
stopped-step : (system : List Row) (editor : Editor) (keys more : List KeyStroke) (replies : List Reply) (turn : Option Turn)
    → ((t : Turn) → handled (talk_behind system keys replies t) < length keys
    → talk_behind system (keys ++ more) replies t ≡ talk_behind system keys replies t)
    → handled (talk_with system editor keys replies turn) < suc (length keys)
    → talk_with system editor (keys ++ more) replies turn ≡ talk_with system editor keys replies turn
stopped-step system editor keys more replies None rest h = refl
stopped-step system editor keys more replies (Some t) rest h = ap (after_key t.calls t.line) (rest t (omega arith))

pub stopped : (system : List Row) (editor : Editor) (keys more : List KeyStroke) (replies : List Reply)
    → handled (talk_from system editor keys replies) < length keys
    → talk_from system editor (keys ++ more) replies ≡ talk_from system editor keys replies
unfolding talk_from
stopped system editor [] more replies h = absurd (omega arith)
stopped system editor (key ∷ keys) more replies h =
    stopped-step system editor keys more replies (turn_of system editor key replies)
    (λ t. stopped system t.editor keys more (drop (length t.calls) replies)) h

-- no more lines than keys
few_lines-step : (system : List Row) (editor : Editor) (keys : List KeyStroke) (replies : List Reply) (turn : Option Turn)
    → ((t : Turn) → handled (talk_behind system keys replies t) ≤ length keys)
    → handled (talk_with system editor keys replies turn) ≤ suc (length keys)
few_lines-step system editor keys replies None rest = omega arith
few_lines-step system editor keys replies (Some t) rest = omega (arith, rest t)

pub few_lines : (system : List Row) (editor : Editor) (keys : List KeyStroke) (replies : List Reply)
    → handled (talk_from system editor keys replies) ≤ length keys
unfolding talk_from
few_lines system editor [] replies = omega arith
few_lines system editor (key ∷ keys) replies =
    few_lines-step system editor keys replies (turn_of system editor key replies)
    (λ t. few_lines system t.editor keys (drop (length t.calls) replies))

-- each call took a reply
taken-step : (system : List Row) (editor : Editor) (keys : List KeyStroke) (replies : List Reply) (turn : Option Turn)
    → ((t : Turn) → turn ≡ Some t → length t.calls ≤ length replies)
    → ((t : Turn) → length (talk_behind system keys replies t).calls + length (talk_behind system keys replies t).replies
    ≡ length (drop (length t.calls) replies))
    → length (talk_with system editor keys replies turn).calls + length (talk_with system editor keys replies turn).replies ≡ length replies
taken-step system editor keys replies None enough rest = omega arith
taken-step system editor keys replies (Some t) enough rest =
    omega (arith, enough t refl, rest t, length-drop (length t.calls) replies, length-append t.calls (talk_behind system keys replies t).calls)

pub taken : (system : List Row) (editor : Editor) (keys : List KeyStroke) (replies : List Reply)
    → length (talk_from system editor keys replies).calls + length (talk_from system editor keys replies).replies ≡ length replies
unfolding talk_from
taken system editor [] replies = omega arith
taken system editor (key ∷ keys) replies =
    taken-step system editor keys replies (turn_of system editor key replies)
    (turn_of-enough system editor key replies)
    (λ t. taken system t.editor keys (drop (length t.calls) replies))

-- a talk that stopped had too few replies left for the calls of the next key
few-step : (system : List Row) (editor : Editor) (key next : KeyStroke) (keys rest : List KeyStroke) (replies : List Reply) (turn : Option Turn)
    → (turn ≡ None → length replies < length (calls_asked (press system editor key)))
    → ((t : Turn) → drop (handled (talk_behind system keys replies t)) keys ≡ next ∷ rest
    → length (talk_behind system keys replies t).replies
    < length (calls_asked (press system (talk_behind system keys replies t).editor next)))
    → drop (handled (talk_with system editor keys replies turn)) (key ∷ keys) ≡ next ∷ rest
    → length (talk_with system editor keys replies turn).replies
    < length (calls_asked (press system (talk_with system editor keys replies turn).editor next))
few-step system editor key next keys rest replies None few after h = let same : key ≡ next = cc in rw (← same) (few refl)
few-step system editor key next keys rest replies (Some t) few after h = after t h

pub few : (system : List Row) (editor : Editor) (next : KeyStroke) (keys rest : List KeyStroke) (replies : List Reply)
    → drop (handled (talk_from system editor keys replies)) keys ≡ next ∷ rest
    → length (talk_from system editor keys replies).replies
    < length (calls_asked (press system (talk_from system editor keys replies).editor next))
unfolding talk_from
few system editor next [] rest replies h = cc
few system editor next (key ∷ keys) rest replies h =
    few-step system editor key next keys rest replies (turn_of system editor key replies)
    (turn_of-few system editor key replies)
    (λ t. few system t.editor next keys rest (drop (length t.calls) replies)) h

-- a talk with further replies, which it did not take
abbrev with_more : Talk → List Reply → Talk
with_more talk more = record talk { replies = talk.replies ++ more }

-- further replies change nothing of a talk whose keys were all handled, and they are left over
more-step : (system : List Row) (editor : Editor) (keys : List KeyStroke) (replies more : List Reply) (turn longer : Option Turn)
    → ((t : Turn) → turn ≡ Some t → longer ≡ Some t)
    → ((t : Turn) → turn ≡ Some t → length t.calls ≤ length replies)
    → ((t : Turn) → handled (talk_behind system keys replies t) ≡ length keys
    → talk_from system t.editor keys (drop (length t.calls) replies ++ more) ≡ with_more (talk_behind system keys replies t) more)
    → handled (talk_with system editor keys replies turn) ≡ suc (length keys)
    → talk_with system editor keys (replies ++ more) longer ≡ with_more (talk_with system editor keys replies turn) more
more-step system editor keys replies more None longer same enough rest h = absurd (omega arith)
more-step system editor keys replies more (Some t) longer same enough rest h =
    rw (same t refl, drop-append-le (length t.calls) replies more (enough t refl)) (ap (after_key t.calls t.line) (rest t (omega arith)))

pub more_replies : (system : List Row) (editor : Editor) (keys : List KeyStroke) (replies more : List Reply)
    → handled (talk_from system editor keys replies) ≡ length keys
    → talk_from system editor keys (replies ++ more) ≡ with_more (talk_from system editor keys replies) more
unfolding talk_from
more_replies system editor [] replies more h = refl
more_replies system editor (key ∷ keys) replies more h =
    more-step system editor keys replies more (turn_of system editor key replies) (turn_of system editor key (replies ++ more))
    (turn_of-more system editor key replies more) (turn_of-enough system editor key replies)
    (λ t. more_replies system t.editor keys (drop (length t.calls) replies) more) h

-- the talk over the keys that were handled is the whole talk
handled_part-step : (system : List Row) (key : KeyStroke) (editor : Editor) (keys : List KeyStroke) (replies : List Reply) (turn : Option Turn)
    → turn_of system editor key replies ≡ turn
    → ((t : Turn) → talk_from system t.editor (take (handled (talk_behind system keys replies t)) keys) (drop (length t.calls) replies)
    ≡ talk_behind system keys replies t)
    → talk_from system editor (take (handled (talk_with system editor keys replies turn)) (key ∷ keys)) replies
    ≡ talk_with system editor keys replies turn
unfolding talk_from
handled_part-step system key editor keys replies None is rest = refl
handled_part-step system key editor keys replies (Some t) is rest =
    ap (talk_with system editor (take (handled (talk_behind system keys replies t)) keys) replies) is
    ∙ ap (after_key t.calls t.line) (rest t)

pub handled_part : (system : List Row) (editor : Editor) (keys : List KeyStroke) (replies : List Reply)
    → talk_from system editor (take (handled (talk_from system editor keys replies)) keys) replies
    ≡ talk_from system editor keys replies
unfolding talk_from
handled_part system editor [] replies = refl
handled_part system editor (key ∷ keys) replies =
    handled_part-step system key editor keys replies (turn_of system editor key replies) refl
    (λ t. handled_part system t.editor keys (drop (length t.calls) replies))

-- the replies that are left are those behind the ones that the calls took
left_replies-step : (system : List Row) (editor : Editor) (keys : List KeyStroke) (replies : List Reply) (turn : Option Turn)
    → ((t : Turn) → (talk_behind system keys replies t).replies ≡ drop (length (talk_behind system keys replies t).calls) (drop (length t.calls) replies))
    → (talk_with system editor keys replies turn).replies ≡ drop (length (talk_with system editor keys replies turn).calls) replies
left_replies-step system editor keys replies None rest = refl
left_replies-step system editor keys replies (Some t) rest =
    let more = (talk_behind system keys replies t).calls in
    rest t ∙ (drop-drop (length more) (length t.calls) replies ∙ ap (λ n. drop n replies) (sym (length-append t.calls more)))

pub left_replies : (system : List Row) (editor : Editor) (keys : List KeyStroke) (replies : List Reply)
    → (talk_from system editor keys replies).replies ≡ drop (length (talk_from system editor keys replies).calls) replies
unfolding talk_from
left_replies system editor [] replies = refl
left_replies system editor (key ∷ keys) replies =
    left_replies-step system editor keys replies (turn_of system editor key replies)
    (λ t. left_replies system t.editor keys (drop (length t.calls) replies))

-- a talk without a line leaves the editor as it was
no_line-step : (system : List Row) (editor : Editor) (keys : List KeyStroke) (replies : List Reply) (turn : Option Turn)
    → (talk_with system editor keys replies turn).lines ≡ [] → (talk_with system editor keys replies turn).editor ≡ editor
no_line-step system editor keys replies None h = refl
no_line-step system editor keys replies (Some t) h = absurd cc

no_line : (system : List Row) (editor : Editor) (keys : List KeyStroke) (replies : List Reply)
    → (talk_from system editor keys replies).lines ≡ [] → (talk_from system editor keys replies).editor ≡ editor
unfolding talk_from
no_line system editor [] replies h = refl
no_line system editor (key ∷ keys) replies h = no_line-step system editor keys replies (turn_of system editor key replies) h

-- the last line shows the editor that is left
last_line-step : (system : List Row) (editor : Editor) (keys : List KeyStroke) (replies : List Reply) (before : List Line) (last : Line) (turn : Option Turn)
    → ((t : Turn) → turn ≡ Some t → t.line ≡ line_of t.editor t.line.commit t.line.note)
    → ((t : Turn) (lines : List Line) → (talk_behind system keys replies t).lines ≡ lines ++ last ∷ []
    → last ≡ line_of (talk_behind system keys replies t).editor last.commit last.note)
    → (talk_with system editor keys replies turn).lines ≡ before ++ last ∷ []
    → last ≡ line_of (talk_with system editor keys replies turn).editor last.commit last.note
last_line-step system editor keys replies [] last None shows rest h = absurd cc
last_line-step system editor keys replies (line ∷ before) last None shows rest h = absurd cc
last_line-step system editor keys replies [] last (Some t) shows rest h =
    let same : t.line ≡ last = cc in
    let none : (talk_behind system keys replies t).lines ≡ [] = cc in
    subst (λ line. line ≡ line_of (talk_behind system keys replies t).editor line.commit line.note) same
    (shows t refl ∙ ap (λ e. line_of e t.line.commit t.line.note) (sym (no_line system t.editor keys (drop (length t.calls) replies) none)))
last_line-step system editor keys replies (line ∷ before) last (Some t) shows rest h = rest t before cc

pub last_line : (system : List Row) (editor : Editor) (keys : List KeyStroke) (replies : List Reply) (before : List Line) (last : Line)
    → (talk_from system editor keys replies).lines ≡ before ++ last ∷ []
    → last ≡ line_of (talk_from system editor keys replies).editor last.commit last.note
unfolding talk_from
last_line system editor [] replies [] last h = absurd cc
last_line system editor [] replies (line ∷ before) last h = absurd cc
last_line system editor (key ∷ keys) replies before last h =
    last_line-step system editor keys replies before last (turn_of system editor key replies)
    (turn_of-line system editor key replies)
    (λ t lines. last_line system t.editor keys (drop (length t.calls) replies) lines last) h

-- the layout keeps its kind
left_kind-step : (system : List Row) (editor : Editor) (keys : List KeyStroke) (replies : List Reply) (turn : Option Turn)
    → ((t : Turn) → turn ≡ Some t → cleared t.editor.layout ≡ cleared editor.layout)
    → ((t : Turn) → cleared (talk_behind system keys replies t).editor.layout ≡ cleared t.editor.layout)
    → cleared (talk_with system editor keys replies turn).editor.layout ≡ cleared editor.layout
left_kind-step system editor keys replies None first rest = refl
left_kind-step system editor keys replies (Some t) first rest = rest t ∙ first t refl

pub left_kind : (system : List Row) (editor : Editor) (keys : List KeyStroke) (replies : List Reply)
    → cleared (talk_from system editor keys replies).editor.layout ≡ cleared editor.layout
unfolding talk_from
left_kind system editor [] replies = refl
left_kind system editor (key ∷ keys) replies =
    left_kind-step system editor keys replies (turn_of system editor key replies) (turn_of-kind system editor key replies)
    (λ t. left_kind system t.editor keys (drop (length t.calls) replies))

pub talk_kind : (system : List Row) (settings : Settings) (keys : List KeyStroke) (replies : List Reply)
    → cleared (talk_from system (empty_editor settings) keys replies).editor.layout ≡ new_layout settings.layout
talk_kind system settings keys replies = left_kind system (empty_editor settings) keys replies ∙ cleared-new settings.layout

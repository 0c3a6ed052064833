-- The keys of a context, handled one after another.
use Rattle.std.specs.Prelude.{◌≡◌, ℕ, suc, ◌+◌, ◌≤◌, ◌<◌, List, [], ◌∷◌, ◌++◌, flat_map, length, take, drop, Option, Some}
use Rattle.std.specs.Option.{option_map_or}
use Rattle.std.proofs.Common.{refl, ap, ap₂, sym, subst, ◌∙◌, arith, get_or}
use Rattle.std.proofs.lemmas.Grind.{flat_map-append}
use Rattle.std.proofs.lemmas.List.{append-nil, append_assoc, length-append, length-take-le, drop_all, take_more}
use Rattle.std.proofs.Math.Seq.{drop-cons}
use Rattle.chew_spec_syllable.specs.Row.{Row}
use Rattle.chew_spec_dictionary.specs.Call.{Call, Reply}
use Rattle.chew_spec_dictionary.specs.History.{Entry, calls_of, replies}
use Rattle.chew_spec_dictionary.specs.Growth.{IsFront, Made}
use Rattle.chew_spec_dictionary.proofs.Growing.{grown-calls, grown-each, grown-replies, made-nothing}
use Rattle.chew_spec_editor.specs.Editor.{Editor, empty_editor}
use Rattle.chew_spec_editor.specs.Keys.{calls_asked, press}
use Rattle.chew_spec_editor.specs.Talk.{Talk, Turn, after_key, followed, handled, silence, talk_from, turn_of}
use Rattle.chew_spec_editor.proofs.Talks as talking
use Rattle.chew_spec_text.specs.KeyStroke.{KeyStroke}
use Rattle.chew_spec_text.specs.Line.{Line, line_text}
use Rattle.chew_spec_session.specs.Context.{Basis, Handles, calls_with_next, next_calls, talk_in}
use Rattle.chew_session.specs.Typing.{Asks, Talks, Turns, Typed}

-- the talk over one key that was handled
talk_one : (system : List Row) (editor : Editor) (key : KeyStroke) (replies : List Reply) (turn : Turn)
    → turn_of system editor key replies ≡ Some turn → length replies ≤ length turn.calls
    → talk_from system editor (key ∷ []) replies ≡ record { calls = turn.calls; lines = turn.line ∷ []; editor = turn.editor; replies = [] }
unfolding talk_from
talk_one system editor key replies turn e all =
    ap (λ (o : Option Turn). option_map_or (λ (t : Turn). after_key t.calls t.line (silence t.editor (drop (length t.calls) replies))) o (silence editor replies)) e
    ∙ ap₂ (λ (l : List Call) (r : List Reply). record { calls = l; lines = turn.line ∷ []; editor = turn.editor; replies = r })
    (append-nil turn.calls) (drop_all (length turn.calls) replies all)

-- the lines of more keys are printed behind those before
lines-more : (lines : List Line) (line : Line) → flat_map line_text lines ++ line_text line ≡ flat_map line_text (lines ++ line ∷ [])
lines-more lines line =
    ap (λ (l : List ℕ). flat_map line_text lines ++ l) (sym (append-nil (line_text line))) ∙ sym (flat_map-append line_text lines (line ∷ []))

module _ (basis : Basis) (who : ℕ) where
  -- no key was handled yet
  talks-none : Talks basis who [] (empty_editor basis.settings) [] []
  unfolding talk_from
  talks-none = record { lines = []; talked = refl; each = refl; printed = refl }

  pub talks-begin : (editor : Editor) (seen : List Entry) (text : List ℕ) → editor ≡ empty_editor basis.settings → seen ≡ [] → text ≡ []
      → Talks basis who [] editor seen text
  talks-begin editor seen text fresh unseen silent =
      subst (λ (e : Editor). Talks basis who [] e seen text) (sym fresh)
      (subst (λ (s : List Entry). Talks basis who [] (empty_editor basis.settings) s text) (sym unseen)
      (subst (λ (t : List ℕ). Talks basis who [] (empty_editor basis.settings) [] t) (sym silent) talks-none))

  module _ (keys : List KeyStroke) (had : Editor) (before now : List Entry) (asked : List Call) (heard : List Reply) (text : List ℕ)
      (talks : Talks basis who keys had before text) (made : Made basis.start before now who asked heard) where
    -- further replies change no talk whose keys were all handled
    longer : talk_in basis now who keys ≡ record { calls = calls_of before who; lines = talks.lines; editor = had; replies = heard }
    longer =
        ap (talk_from basis.system (empty_editor basis.settings) keys) (grown-replies basis.start before now who asked heard made)
        ∙ talking.more_replies basis.system (empty_editor basis.settings) keys (replies basis.start before who) heard (ap handled talks.talked ∙ talks.each)
        ∙ ap (λ (t : Talk). record t { replies = t.replies ++ heard }) talks.talked

    -- one key more
    talk_more : (key : KeyStroke) (line : Line) (editor : Editor) → turn_of basis.system had key heard ≡ Some (record { calls = asked; line = line; editor = editor })
        → talk_in basis now who (keys ++ key ∷ []) ≡ record { calls = calls_of before who ++ asked; lines = talks.lines ++ line ∷ []; editor = editor; replies = [] }
    talk_more key line editor turned =
        let few = grown-each basis.start before now who asked heard made in
        let turn : Turn = record { calls = asked; line = line; editor = editor } in
        talking.joined basis.system (empty_editor basis.settings) keys (key ∷ []) (replies basis.start now who) (ap handled longer ∙ talks.each)
        ∙ ap (λ (t : Talk). followed t (talk_from basis.system t.editor (key ∷ []) t.replies)) longer
        ∙ ap (followed (record { calls = calls_of before who; lines = talks.lines; editor = had; replies = heard })) (talk_one basis.system had key heard turn turned (omega arith))

    talks-next : (key : KeyStroke) (line : Line) (editor : Editor) (printed : List ℕ) → turn_of basis.system had key heard ≡ Some (record { calls = asked; line = line; editor = editor })
        → printed ≡ text ++ line_text line → Talks basis who (keys ++ key ∷ []) editor now printed
    talks-next key line editor printed turned is = record {
      lines = talks.lines ++ line ∷ [];
      talked = talk_more key line editor turned
          ∙ ap (λ (calls : List Call). record { calls = calls; lines = talks.lines ++ line ∷ []; editor = editor; replies = [] })
          (sym (grown-calls basis.start before now who asked heard made));
      each = length-append talks.lines (line ∷ []) ∙ ap (λ (n : ℕ). n + 1) talks.each ∙ sym (length-append keys (key ∷ []));
      printed = is ∙ ap (λ (l : List ℕ). l ++ line_text line) talks.printed ∙ lines-more talks.lines line;
    }

  -- one key more was handled
  pub talks-more : (by : ℕ) (keys : List KeyStroke) (i : ℕ) (key : KeyStroke) (had editor : Editor) (before now : List Entry) (text printed : List ℕ) → by ≡ who
      → i < length keys → key ≡ get_or keys i key → Talks basis who (take i keys) had before text
      → Turns basis.system basis.start by key had editor before now text printed → Talks basis who (take (i + 1) keys) editor now printed
  talks-more by keys i key had editor before now text printed me within is talks turns =
      let longer : take i keys ++ key ∷ [] ≡ take (i + 1) keys = ap (λ (k : KeyStroke). take i keys ++ k ∷ []) is ∙ sym (take_more keys i key within) in
      let made : Made basis.start before now who turns.calls turns.heard = subst (λ (n : ℕ). Made basis.start before now n turns.calls turns.heard) me turns.made in
      subst (λ (l : List KeyStroke). Talks basis who l editor now printed) longer
      (talks-next (take i keys) had before now turns.calls turns.heard text talks made key turns.line editor printed turns.turned turns.printed)

  -- what a context handled, where these calls of the next key were made
  handles-of : (keys : List KeyStroke) (i : ℕ) (had : Editor) (before now : List Entry) (asked : List Call) (heard : List Reply) (text : List ℕ)
      (talks : Talks basis who (take i keys) had before text) → Made basis.start before now who asked heard → i ≤ length keys
      → IsFront asked (next_calls basis had (drop i keys)) → Handles basis now who keys i talks.lines
  handles-of keys i had before now asked heard text talks made within front =
      let whole : Talk = record { calls = calls_of before who; lines = talks.lines; editor = had; replies = heard } in
      let talk : talk_in basis now who (take i keys) ≡ whole = longer (take i keys) had before now asked heard text talks made in
      let mine : calls_of now who ≡ calls_of before who ++ asked = grown-calls basis.start before now who asked heard made in
      record {
        each = talks.each ∙ length-take-le i keys within;
        talked = sym (ap (λ (t : Talk). t.lines) talk);
        made = subst (λ (t : Talk). IsFront t.calls (calls_of now who)) (sym talk) (record { rest = asked; joined = mine });
        next = subst (λ (t : Talk). IsFront (calls_of now who) (calls_with_next basis t (drop i keys))) (sym talk)
            (record {
              rest = front.rest;
              joined = ap (λ (l : List Call). calls_of before who ++ l) front.joined
                  ∙ sym (append_assoc (calls_of before who) asked front.rest)
                  ∙ ap (λ (l : List Call). l ++ front.rest) (sym mine);
            });
      }

  -- a context that handled all of its keys
  pub typed-all : (keys : List KeyStroke) (i count : ℕ) (had : Editor) (seen : List Entry) (text : List ℕ) → count ≡ i → i ≤ length keys
      → Talks basis who (take i keys) had seen text → Typed basis who keys seen count text
  typed-all keys i count had seen text counted within talks = subst (λ (n : ℕ). Typed basis who keys seen n text) (sym counted) (record {
    lines = talks.lines;
    handles = handles-of keys i had seen seen [] [] text talks (made-nothing basis.start seen who) within
        (record { rest = next_calls basis had (drop i keys); joined = refl });
    printed = talks.printed;
  })

  -- a context that was stopped at a key
  pub typed-stopped : (by : ℕ) (keys : List KeyStroke) (i count : ℕ) (key : KeyStroke) (had : Editor) (before now : List Entry) (text printed : List ℕ) → by ≡ who → count ≡ i
      → i < length keys → key ≡ get_or keys i key → printed ≡ text → Talks basis who (take i keys) had before text
      → Asks basis.start by (calls_asked (press basis.system had key)) before now → Typed basis who keys now count printed
  typed-stopped by keys i count key had before now text printed me counted within is kept talks asks =
      let made : Made basis.start before now who asks.asked asks.heard = subst (λ (n : ℕ). Made basis.start before now n asks.asked asks.heard) me asks.made in
      let front : IsFront asks.asked (next_calls basis had (drop i keys)) =
      subst (λ (l : List KeyStroke). IsFront asks.asked (next_calls basis had l))
      (ap (λ (k : KeyStroke). k ∷ drop (suc i) keys) is ∙ sym (drop-cons keys i key within)) asks.front in
      subst (λ (n : ℕ). Typed basis who keys now n printed) (sym counted) (record {
        lines = talks.lines;
        handles = handles-of keys i had before now asks.asked asks.heard text talks made (omega arith) front;
        printed = kept ∙ talks.printed;
      })

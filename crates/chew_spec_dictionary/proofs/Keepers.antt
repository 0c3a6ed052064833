-- Freezes and installs change no later answer to any other call.
use Rattle.std.proofs.Common.{◌≡◌, ℕ, Bool, true, false, List, [], ◌∷◌, ◌&&◌, not, refl, ap, ap₂, sym, ◌∙◌, cond, eqb, ◌==◌, if◌then◌else◌}
use Rattle.std.specs.List.{filter}
use Rattle.std.proofs.lemmas.Bool.{and_parts, eqb-true, cond-false, ne_eqb, not-true, true≢false}
use Rattle.chew_spec_dictionary.specs.Call.{Call, Look, Learn, Forget, Hide, Freeze, Install, Reply, Rows, is_proper}
use Rattle.chew_spec_dictionary.specs.Dictionary.{Dictionary, learn, forget, hide}
use Rattle.chew_spec_dictionary.specs.Look.{hits_of}
use Rattle.chew_spec_dictionary.specs.History.{Point, Entry, answer, after, replies, is_keepers, is_legal, is_legal_entry, installs_waiting}

-- the dictionary that a call leaves, by the dictionary before it
same_left : (p q : Point) (call : Call) → p.dictionary ≡ q.dictionary → (answer p call).point.dictionary ≡ (answer q call).point.dictionary
same_left p q (Look run) e = e
same_left p q (Learn key phrase orig peak) e = ap (λ (d : Dictionary). (learn d key phrase orig peak).left) e
same_left p q (Forget key phrase) e = ap (λ (d : Dictionary). (forget d key phrase).left) e
same_left p q (Hide key phrase) e = ap (λ (d : Dictionary). (hide d key phrase).left) e
same_left p q Freeze e = e
same_left p q (Install number) e = e

-- the reply to a call that is no freeze and no install, by the dictionary before it
same_reply : (p q : Point) (call : Call) → p.dictionary ≡ q.dictionary → is_keepers call ≡ false → (answer p call).reply ≡ (answer q call).reply
same_reply p q (Look run) e k = ap (λ (d : Dictionary). Rows (hits_of d.pairs run)) e
same_reply p q (Learn key phrase orig peak) e k = ap (λ (d : Dictionary). (learn d key phrase orig peak).reply) e
same_reply p q (Forget key phrase) e k = ap (λ (d : Dictionary). (forget d key phrase).reply) e
same_reply p q (Hide key phrase) e k = ap (λ (d : Dictionary). (hide d key phrase).reply) e
same_reply p q Freeze e k = absurd (true≢false k)
same_reply p q (Install number) e k = absurd (true≢false k)

-- a freeze or an install leaves the dictionary
keepers_same : (p : Point) (call : Call) → is_keepers call ≡ true → (answer p call).point.dictionary ≡ p.dictionary
keepers_same p (Look run) k = refl
keepers_same p (Learn key phrase orig peak) k = absurd (true≢false (sym k))
keepers_same p (Forget key phrase) k = absurd (true≢false (sym k))
keepers_same p (Hide key phrase) k = absurd (true≢false (sym k))
keepers_same p Freeze k = refl
keepers_same p (Install number) k = refl

-- a history without its freezes and installs
abbrev pub without_keepers : List Entry → List Entry
without_keepers h = filter (λ e. not (is_keepers e.call)) h

-- the dictionary after a history is that after its other calls, from any point with that dictionary
left_without : (p q : Point) (h : List Entry) → p.dictionary ≡ q.dictionary → (after p h).dictionary ≡ (after q (without_keepers h)).dictionary
left_without p q [] same = same
left_without p q (e ∷ h) same = by (is_keepers e.call) refl (left_without (answer p e.call).point q h) (left_without (answer p e.call).point (answer q e.call).point h)
  where
    by : (b : Bool) → is_keepers e.call ≡ b
        → ((answer p e.call).point.dictionary ≡ q.dictionary → (after (answer p e.call).point h).dictionary ≡ (after q (without_keepers h)).dictionary)
        → ((answer p e.call).point.dictionary ≡ (answer q e.call).point.dictionary → (after (answer p e.call).point h).dictionary ≡ (after (answer q e.call).point (without_keepers h)).dictionary)
        → (after (answer p e.call).point h).dictionary ≡ (after q (cond (not b) (e ∷ without_keepers h) (without_keepers h))).dictionary
    by true k skipped taken = skipped (keepers_same p e.call k ∙ same)
    by false k skipped taken = taken (same_left p q e.call same)

-- the dictionary after a history is that after its other calls
pub dictionary_without : (p : Point) (h : List Entry) → (after p h).dictionary ≡ (after p (without_keepers h)).dictionary
dictionary_without p h = left_without p p h refl

-- a legal entry of a number other than 0 is no freeze and no install
others_call : (p : Point) (e : Entry) (h : List Entry) → is_legal p (e ∷ h) ≡ true → (e.who ≡ 0 → ⊥) → is_keepers e.call ≡ false
others_call p e h l other =
    let both = and_parts (is_legal_entry p e) (is_legal (answer p e.call).point h) l in
    let entry = and_parts (if e.who == 0 then is_keepers e.call else not (is_keepers e.call)) (is_proper e.call && installs_waiting p e.call) both.0 in
    not-true _ (sym (cond-false (eqb e.who 0) (is_keepers e.call) (not (is_keepers e.call)) (ne_eqb e.who 0 other)) ∙ entry.0)

-- the replies to a number other than 0 are those in the history without freezes and installs
replies_from : (p q : Point) (h : List Entry) (who : ℕ) → is_legal p h ≡ true → (who ≡ 0 → ⊥) → p.dictionary ≡ q.dictionary → replies p h who ≡ replies q (without_keepers h) who
replies_from p q [] who l other same = refl
replies_from p q (e ∷ h) who l other same =
    let rest = and_parts (is_legal_entry p e) (is_legal (answer p e.call).point h) l in
    by (eqb e.who who) (is_keepers e.call) refl refl (replies_from (answer p e.call).point q h who rest.1 other) (replies_from (answer p e.call).point (answer q e.call).point h who rest.1 other)
  where
    by : (b k : Bool) → eqb e.who who ≡ b → is_keepers e.call ≡ k
        → ((answer p e.call).point.dictionary ≡ q.dictionary → replies (answer p e.call).point h who ≡ replies q (without_keepers h) who)
        → ((answer p e.call).point.dictionary ≡ (answer q e.call).point.dictionary → replies (answer p e.call).point h who ≡ replies (answer q e.call).point (without_keepers h) who)
        → cond b ((answer p e.call).reply ∷ replies (answer p e.call).point h who) (replies (answer p e.call).point h who) ≡ replies q (cond (not k) (e ∷ without_keepers h) (without_keepers h)) who
    by true true eb ek skipped taken = absurd (true≢false (sym ek ∙ others_call p e h l (λ z. other (sym (eqb-true e.who who eb) ∙ z))))
    by false true eb ek skipped taken = skipped (keepers_same p e.call ek ∙ same)
    by b false eb ek skipped taken =
        ap₂ (λ (r : Reply) (rs : List Reply). cond b (r ∷ rs) rs) (same_reply p q e.call same ek) (taken (same_left p q e.call same))
        ∙ ap (λ (t : Bool). cond t ((answer q e.call).reply ∷ replies (answer q e.call).point (without_keepers h) who) (replies (answer q e.call).point (without_keepers h) who)) (sym eb)

-- freezes and installs change no reply to a number other than 0
pub replies_without : (p : Point) (h : List Entry) (who : ℕ) → is_legal p h ≡ true → (who ≡ 0 → ⊥) → replies p h who ≡ replies p (without_keepers h) who
replies_without p h who l other = replies_from p p h who l other refl

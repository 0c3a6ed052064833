-- Both look at the same rows.
use Rattle.std.proofs.Common.{List, sym, ap, ◌∙◌}
use Rattle.chew_spec_syllable.specs.Row.{Row}
use Rattle.chew_spec_dictionary.specs.System.{freq_of, peak_of}
use Rattle.chew_trie_read.proofs.alike.frequencies.Goals as goal

pub returns-clause-orig : goal.returns-clause-orig
returns-clause-orig g c =
    c.orig_and_peak-found.ensures.orig ∙ ap (λ (r : List Row). freq_of r c.args.key.now c.args.phrase.now) c.requires ∙ sym c.orig_and_peak-same.ensures.orig

pub returns-clause-peak : goal.returns-clause-peak
returns-clause-peak g c =
    c.orig_and_peak-found.ensures.peak ∙ ap (λ (r : List Row). peak_of r c.args.key.now) c.requires ∙ sym c.orig_and_peak-same.ensures.peak

-- What a key does to any layout.
use Rattle.std.specs.Prelude.{◌≡◌, ℕ, true}
use Rattle.std.proofs.Common.{refl}
use Rattle.chew_spec_layout.specs.Layout.{Kind, Standard, Eten, Hsu, Et26, Pinyin, Layout, ByParts, ByLetters, BySpelling, cleared, feed, is_layout, new_layout}
use Rattle.chew_spec_layout.specs.Step.{Step, Kept, Whole, Refused, Erased, NotMine}
use Rattle.chew_spec_layout.specs.Table.{nothing_held}
use Rattle.chew_spec_layout.specs.Table as table
use Rattle.chew_spec_layout.proofs.AnyLayout.{feed-cleared}
use Rattle.chew_spec_editor.specs.Completion.{is_whole}

-- a step that is whole has a code
whole-code : (step : Step) → is_whole step ≡ true → (code : ℕ) × (step ≡ Whole code)
whole-code Kept h = absurd cc
whole-code (Whole code) h = (code, refl)
whole-code Refused h = absurd cc
whole-code Erased h = absurd cc
whole-code NotMine h = absurd cc

-- a whole syllable leaves nothing held
pub feed-whole : (layout : Layout) (key : ℕ) → is_whole (feed layout key).step ≡ true → (feed layout key).layout ≡ cleared layout
feed-whole layout key h = let whole = whole-code (feed layout key).step h in feed-cleared layout key whole.0 whole.1

-- what is left without what is held is in the range of its kind
pub cleared-in_range : (layout : Layout) → is_layout (cleared layout) ≡ true
cleared-in_range (ByParts table held) = refl
cleared-in_range (ByLetters letters held) = refl
cleared-in_range (BySpelling held) = refl

-- a layout keeps its kind
pub cleared-feed : (layout : Layout) (key : ℕ) → cleared (feed layout key).layout ≡ cleared layout
cleared-feed (ByParts table held) key = refl
cleared-feed (ByLetters letters held) key = refl
cleared-feed (BySpelling held) key = refl

pub cleared-cleared : (layout : Layout) → cleared (cleared layout) ≡ cleared layout
cleared-cleared (ByParts table held) = refl
cleared-cleared (ByLetters letters held) = refl
cleared-cleared (BySpelling held) = refl

pub cleared-new : (kind : Kind) → cleared (new_layout kind) ≡ new_layout kind
cleared-new Standard = refl
cleared-new Eten = refl
cleared-new Hsu = refl
cleared-new Et26 = refl
cleared-new Pinyin = refl

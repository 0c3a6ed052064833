-- The definition's kind and layout that the code's stand for.
use Rattle.chew_spec_layout.specs.Layout as spec
use Rattle.chew_layouts.specs.declared.kind.Kind.{Kind}
use Rattle.chew_layouts.specs.declared.kind.Kind.TheVariants as kind
use Rattle.chew_layouts.specs.declared.layout.Layout.{Layout}
use Rattle.chew_layouts.specs.declared.layout.Layout.TheVariants as layout

abbrev pub kind_of : Kind → spec.Kind
kind_of kind.Standard = spec.Standard
kind_of kind.Eten = spec.Eten
kind_of kind.Hsu = spec.Hsu
kind_of kind.Et26 = spec.Et26
kind_of kind.Pinyin = spec.Pinyin

abbrev pub layout_of : Layout → spec.Layout
layout_of (layout.Direct direct) = spec.ByParts direct.table direct.held
layout_of (layout.Raw26 raw) = spec.ByLetters raw.kind raw.held
layout_of (layout.Pinyin held) = spec.BySpelling held

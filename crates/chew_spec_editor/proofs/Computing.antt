-- `unfolding typing` lets `refl` compute what keys do.
use Rattle.std.specs.Fmt.{digits}
use Rattle.std.specs.Str.{chars}
use Rattle.chew_spec_syllable.specs.SyllableText.{text_of}
use Rattle.chew_spec_layout.specs.Table.{fed}
use Rattle.chew_spec_dictionary.specs.FiveRows.{five_rows}
use Rattle.chew_spec_dictionary.specs.Look.{hits_of}
use Rattle.chew_spec_dictionary.specs.Dictionary.{learn, forget, hide}
use Rattle.chew_spec_dictionary.specs.Frequency.{update}
use Rattle.chew_spec_phrasing.specs.Best.{best_of}
use Rattle.chew_spec_phrasing.specs.CombinedRows.{combined_hits}
use Rattle.chew_spec_phrasing.specs.Usable.{piece_at}
use Rattle.chew_spec_text.specs.KeyStroke.{keys_in}
use Rattle.chew_spec_text.specs.Line.{line_text}
use Rattle.chew_spec_preedit.specs.Edit.{inserted, break_toggled, deleted, backspaced, chosen, released}
use Rattle.chew_spec_preedit.specs.PlacedRun.{runs_of}
use Rattle.chew_spec_preedit.specs.ShownText.{characters_of}
use Rattle.chew_spec_preedit.specs.Window.{candidate_lists, next_page, on_page, page_before, picked, shorter}
use Rattle.chew_spec_editor.specs.Alone.{alone_from}
use Rattle.chew_spec_editor.specs.Editor.{line_of, window_text}
use Rattle.chew_spec_editor.specs.Finish.{finish, phrased}
use Rattle.chew_spec_editor.specs.Keys.{press, press_free, press_plain, press_selection, press_window}
use Rattle.chew_spec_editor.specs.Learning.{learns, learns_of}
use Rattle.chew_spec_editor.specs.PhraseKeys.{press_about, press_add, press_forget, press_hide}
use Rattle.chew_spec_editor.specs.Press.{after_step, asking, edit, insert, leading_learns, learn_shown, press_backspace, press_char, press_delete, press_down, press_enter, press_esc, press_left, press_right, press_tab, releasing, text_at}

unfoldable pub typing : Unit {0}
unfolding digits chars text_of fed five_rows hits_of learn forget hide update best_of combined_hits piece_at keys_in line_text inserted break_toggled deleted backspaced chosen released runs_of characters_of candidate_lists next_page on_page page_before picked shorter alone_from line_of window_text finish phrased press press_free press_plain press_selection press_window learns learns_of after_step asking edit insert leading_learns learn_shown press_about press_add press_backspace press_char press_delete press_down press_enter press_esc press_forget press_hide press_left press_right press_tab releasing text_at
typing = tt

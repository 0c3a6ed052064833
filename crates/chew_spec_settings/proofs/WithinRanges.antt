-- The settings of a text are in their ranges.
use Rattle.std.proofs.Common.{◌≡◌, ℕ, pos, negsuc, Bool, true, false, cond, ◌&&◌, ◌==◌, List, length, nat_le, nat_lt, Option, Some, None, Result, Ok, Err, ap, subst, refl}
use Rattle.std.proofs.lemmas.Bool.{and_parts}
use Rattle.std.specs.List.{list_all}
use Rattle.std.specs.Option.{option_map_or}
use Rattle.toml.specs.Data.{Data, string, integer, float, boolean, datetime, array, table, Members, get_member}
use Rattle.chew_spec_layout.specs.Layout.{Kind as LayoutKind}
use Rattle.chew_spec_editor.specs.Invariant.{is_distinct, is_selection_key, is_settings}
use Rattle.chew_spec_editor.specs.Settings.{Settings, standard_settings}
use Rattle.chew_spec_settings.specs.Fault.{SettingCause, SettingsFault, Size, Toml, Unknown}
use Rattle.chew_spec_settings.specs.Name.{Layout, Buffer, Page, Selection, EscapeClears, Learn, Cap, Other, setting_word}
use Rattle.chew_spec_settings.specs.SettingsText.{are_settings, at_fault, settings_in, settings_in_table, settings_limit, settings_of, table_in, with_setting}
use Rattle.chew_spec_settings.specs.Values.{buffer_in, cap_in, escape_clears_in, layout_in, learn_in, integer_up_to, page_in, selection_in, selection_value}

-- the settings have the values that were told one by one
record Have (layout : Result LayoutKind SettingCause) (buffer page : Result ℕ SettingCause) (selection : Result (List ℕ) SettingCause)
    (escape_clears learn : Result Bool SettingCause) (cap : Result ℕ SettingCause) (settings : Settings) : Type 0 where
  buffer_is : buffer ≡ Ok settings.buffer
  page_is : page ≡ Ok settings.page
  selection_is : selection ≡ Ok settings.selection
  cap_is : cap ≡ Ok settings.cap

-- the settings made of values that were told one by one
abbrev chained : Result LayoutKind SettingCause → (buffer page : Result ℕ SettingCause) → Result (List ℕ) SettingCause
    → (escape_clears learn : Result Bool SettingCause) → Result ℕ SettingCause → Result Settings SettingsFault
chained layout buffer page selection escape_clears learn cap =
    with_setting Layout layout (λ layout.
    with_setting Buffer buffer (λ buffer.
    with_setting Page page (λ page.
    with_setting Selection selection (λ selection.
    with_setting EscapeClears escape_clears (λ escape_clears.
    with_setting Learn learn (λ learn.
    with_setting Cap cap (λ cap.
    Ok (record {
      layout = layout;
      buffer = buffer;
      page = page;
      selection = selection;
      escape_clears = escape_clears;
      learn = learn;
      cap = cap;
    }))))))))

have : (layout : Result LayoutKind SettingCause) (buffer page : Result ℕ SettingCause) (selection : Result (List ℕ) SettingCause)
    (escape_clears learn : Result Bool SettingCause) (cap : Result ℕ SettingCause) (settings : Settings)
    → chained layout buffer page selection escape_clears learn cap ≡ Ok settings → Have layout buffer page selection escape_clears learn cap settings
have (Ok l) (Ok b) (Ok p) (Ok s) (Ok e) (Ok n) (Ok c) settings made =
    let same : record { layout = l; buffer = b; page = p; selection = s; escape_clears = e; learn = n; cap = c } ≡ settings = cc in
    record {
      buffer_is = ap (λ (x : Settings). Ok x.buffer) same;
      page_is = ap (λ (x : Settings). Ok x.page) same;
      selection_is = ap (λ (x : Settings). Ok x.selection) same;
      cap_is = ap (λ (x : Settings). Ok x.cap) same;
    }
have (Err l) b p s e n c settings made = absurd cc
have (Ok l) (Err b) p s e n c settings made = absurd cc
have (Ok l) (Ok b) (Err p) s e n c settings made = absurd cc
have (Ok l) (Ok b) (Ok p) (Err s) e n c settings made = absurd cc
have (Ok l) (Ok b) (Ok p) (Ok s) (Err e) n c settings made = absurd cc
have (Ok l) (Ok b) (Ok p) (Ok s) (Ok e) (Err n) c settings made = absurd cc
have (Ok l) (Ok b) (Ok p) (Ok s) (Ok e) (Ok n) (Err c) settings made = absurd cc

-- what is let through passes the test
passed : {V : Type 0} (test : V → Bool) (value other : V) (cause : SettingCause) → cond (test value) (Ok value) (Err cause) ≡ Ok other → test other ≡ true
passed test value other cause = by (test value) refl where
  by : (b : Bool) → test value ≡ b → cond b (Ok value) (Err cause) ≡ Ok other → test other ≡ true
  by true is e = let same : value ≡ other = cc in subst (λ (v : _). test v ≡ true) same is
  by false is e = absurd cc

number_passed : (greatest : ℕ) (given : Data) (n : ℕ) → integer_up_to greatest given ≡ Ok n → nat_le 1 n && nat_le n greatest ≡ true
number_passed greatest (integer (pos m)) n e = passed (λ (k : ℕ). nat_le 1 k && nat_le k greatest) m n _ e
number_passed greatest (integer (negsuc m)) n e = absurd cc
number_passed greatest (string s) n e = absurd cc
number_passed greatest (float x) n e = absurd cc
number_passed greatest (boolean b) n e = absurd cc
number_passed greatest (datetime d) n e = absurd cc
number_passed greatest (array ds) n e = absurd cc
number_passed greatest (table ms) n e = absurd cc

abbrev is_selection : List ℕ → Bool
is_selection keys = length keys == 10 && (list_all is_selection_key keys && is_distinct keys)

selection_passed : (given : Data) (keys : List ℕ) → selection_value given ≡ Ok keys → is_selection keys ≡ true
selection_passed (string s) keys e = passed is_selection s keys _ e
selection_passed (integer z) keys e = absurd cc
selection_passed (float x) keys e = absurd cc
selection_passed (boolean b) keys e = absurd cc
selection_passed (datetime d) keys e = absurd cc
selection_passed (array ds) keys e = absurd cc
selection_passed (table ms) keys e = absurd cc

-- what is found passes the test where the value of each and the standard one do
found_passed : {V : Type 0} (test : V → Bool) (value : Data → Result V SettingCause) (standard v : V) (found : Option Data)
    → ((given : Data) (v : V) → value given ≡ Ok v → test v ≡ true) → test standard ≡ true → option_map_or value found (Ok standard) ≡ Ok v → test v ≡ true
found_passed test value standard v (Some given) each is e = each given v e
found_passed test value standard v None each is e = let same : standard ≡ v = cc in subst (λ (w : _). test w ≡ true) same is

number_in : (greatest standard n : ℕ) (found : Option Data) → nat_le 1 standard && nat_le standard greatest ≡ true
    → option_map_or (integer_up_to greatest) found (Ok standard) ≡ Ok n → nat_le 1 n && nat_le n greatest ≡ true
number_in greatest standard n found is e =
    found_passed (λ (k : ℕ). nat_le 1 k && nat_le k greatest) (integer_up_to greatest) standard n found (number_passed greatest) is e

pub of_settings : (given : Members) (settings : Settings) → settings_in given ≡ Ok settings → is_settings settings ≡ true
unfolding settings_in
of_settings given settings made =
    let told = have (layout_in given) (buffer_in given) (page_in given) (selection_in given) (escape_clears_in given) (learn_in given) (cap_in given) settings made in
    let buffer = and_parts (nat_le 1 settings.buffer) (nat_le settings.buffer 39) (number_in 39 10 settings.buffer (get_member (setting_word Buffer) given) refl told.buffer_is) in
    let page = and_parts (nat_le 1 settings.page) (nat_le settings.page 10) (number_in 10 10 settings.page (get_member (setting_word Page) given) refl told.page_is) in
    let selection = and_parts (length settings.selection == 10) (list_all is_selection_key settings.selection && is_distinct settings.selection) (found_passed is_selection selection_value standard_settings.selection settings.selection (get_member (setting_word Selection) given) selection_passed refl told.selection_is) in
    let keys = and_parts (list_all is_selection_key settings.selection) (is_distinct settings.selection) selection.1 in
    let cap = and_parts (nat_le 1 settings.cap) (nat_le settings.cap 200_000) (number_in 200_000 65_536 settings.cap (get_member (setting_word Cap) given) refl told.cap_is) in
    rw (buffer.0, buffer.1, page.0, page.1, selection.0, keys.0, keys.1, cap.0, cap.1) refl

known : (test : Bool) (given : Members) (settings : Settings) → cond test (settings_in given) (at_fault Other Unknown) ≡ Ok settings → is_settings settings ≡ true
known true given settings made = of_settings given settings made
known false given settings made = absurd cc

parsed : (found : Option Members) (settings : Settings) → option_map_or settings_in_table found (at_fault Other Toml) ≡ Ok settings → is_settings settings ≡ true
parsed (Some given) settings made = known (are_settings given) given settings made
parsed None settings made = absurd cc

short : (long : Bool) (text : List ℕ) (settings : Settings)
    → cond long (at_fault Other Size) (option_map_or settings_in_table (table_in text) (at_fault Other Toml)) ≡ Ok settings → is_settings settings ≡ true
short true text settings made = absurd cc
short false text settings made = parsed (table_in text) settings made

pub in_range : (text : List ℕ) (settings : Settings) → settings_of text ≡ Ok settings → is_settings settings ≡ true
unfolding settings_of
in_range text settings made = short (nat_lt settings_limit (length text)) text settings made

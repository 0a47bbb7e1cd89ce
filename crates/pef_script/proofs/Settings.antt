-- The row that a name finds in the code's table of configuration lines is the line that it finds in the definitions.
use Rattle.std.proofs.Common.{◌≡◌, ℕ, List, drop, map, refl, ap, sym, ◌∙◌, Option, option_map, Bor}
use Rattle.std.specs.Prelude.{Some, None}
use Rattle.std.specs.List.{find}
use Rattle.std.specs.Str.{bytes_eq}
use Rattle.pef_script.specs.declared.setting.SettingRow.{SettingRow}
use Rattle.pef_script.specs.Setting.{Form, form, form_in, settings, setting_from}
use Rattle.std.proofs.lemmas.List.{drop-map}
use Rattle.pef_script.proofs.Rows.{find-map}

pub setting_found : (rows : List SettingRow) (place : ℕ) (name : List ℕ) (row : Option (Bor SettingRow)) → map form_in rows ≡ map form settings →
    option_map (λ (r : Bor SettingRow). r.now) row ≡ find (λ (r : SettingRow). bytes_eq r.name.now name) (drop place rows) →
    option_map (λ (r : Bor SettingRow). form_in r.now) row ≡ option_map form (setting_from place name)
unfolding setting_from
setting_found rows place name row same e =
    twice row ∙ ap (option_map form_in) e ∙ find-map form_in (λ (f : Form). bytes_eq f.name name) (drop place rows)
    ∙ ap (find (λ (f : Form). bytes_eq f.name name)) (sym (drop-map form_in place rows) ∙ ap (drop place) same ∙ drop-map form place settings)
    ∙ sym (find-map form (λ (f : Form). bytes_eq f.name name) (drop place settings))
  where
    twice : (row : Option (Bor SettingRow)) → option_map (λ (r : Bor SettingRow). form_in r.now) row ≡ option_map form_in (option_map (λ (r : Bor SettingRow). r.now) row)
    twice None = refl
    twice (Some r) = refl

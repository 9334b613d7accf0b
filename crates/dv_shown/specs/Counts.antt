-- How many rows windows add, and what the vault then weighs.
use Rattle.std.specs.Prelude.{◌≡◌, ℕ, List, [], ◌∷◌, ◌++◌, codes}
use Rattle.dv_text.specs.declared.rows.Window.{Window}
use Rattle.dv_text.specs.Keys.{Hashes}
use Rattle.dv_catalog.specs.Entries.{Mapping}
use Rattle.dv_records.specs.declared.stores.Rows.TheVariants.{Hubs}
use Rattle.dv_records.specs.Loads.{loaded}
use Rattle.dv_records.specs.Weights.{rows_weight, text_weight, vault_weight}
use Rattle.dv_shown.specs.Mappings.{bare, with_accounts, with_drivers, with_names, with_orders, with_phones, with_sites}
use Rattle.dv_shown.specs.Windows.{assignments, begun_alike, coming_and_going, emptied, once, one_site, orders, phones, there_and_back, tiers_later, two_keys}
use Rattle.dv_shown.specs.Words.{in_hub, plain, tiny}

-- the numbers of rows that windows add, one window after another
abbrev pub loads : Mapping → Hashes → List Window → List Window → List ℕ
loads mapping hashes sealed [] = []
loads mapping hashes sealed (next ∷ windows) = loaded mapping hashes sealed next ∷ loads mapping hashes (sealed ++ next ∷ []) windows

pub record CountsHold : Type 0 where
  pub keys_alone : loads bare plain [] two_keys ≡ 4 ∷ []
  pub one_key : loads with_names plain [] once ≡ 3 ∷ []
  pub empties : loads with_names plain [] emptied ≡ 6 ∷ 2 ∷ []
  pub comes_and_goes : loads with_names plain [] coming_and_going ≡ 3 ∷ 1 ∷ 1 ∷ []
  pub changes : loads with_names plain [] there_and_back ≡ 3 ∷ 1 ∷ 1 ∷ []
  pub equal_diffs : loads with_names tiny [] begun_alike ≡ 3 ∷ 1 ∷ []
  pub two_feeds : loads with_accounts plain [] tiers_later ≡ 11 ∷ 1 ∷ []
  pub several_rows : loads with_phones plain [] phones ≡ 5 ∷ 3 ∷ []
  pub runs : loads with_drivers plain [] assignments ≡ 5 ∷ 6 ∷ 4 ∷ []
  pub links : loads with_orders plain [] orders ≡ 18 ∷ []

pub record WeightsHold : Type 0 where
  pub text : text_weight (codes "abc") ≡ 19
  -- 128, 29 for the source, and 17 for the key's part
  pub hub_row : rows_weight (Hubs (in_hub (codes "1") 1 (codes "crm.customers") ∷ [])) ≡ 174
  pub keys_alone : vault_weight bare plain two_keys ≡ 664
  -- hub row 174, satellite row 208, status row 157
  pub attribute : vault_weight with_names plain once ≡ 539
  -- a key of two parts: hub row 191, status row 153
  pub two_parts : vault_weight with_sites plain one_site ≡ 344
  -- hub row 171, satellite rows 223, 224 and 224 twice, status row 154
  pub several_rows : vault_weight with_phones plain phones ≡ 1667
  -- hub rows 175 three times, link rows 222 twice, status and effectivity rows 158 five times each
  pub driven : vault_weight with_drivers plain assignments ≡ 2549
  -- hub rows 176, 177 twice and 172 twice, link rows 223 twice and 218 three times, status rows 159 twice and 154 three
  -- times, satellite rows 203 three times
  pub linked : vault_weight with_orders plain orders ≡ 3363

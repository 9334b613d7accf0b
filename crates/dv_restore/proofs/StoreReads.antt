-- What is read of a store before its raw tables, and with them, tells its first damage.
use Rattle.dv_restore.proofs.Vocabulary.{Begun, Damage, Hashes, IfSome, IsBegunAs, KeepsF15, List, Mapping, MayGoOn, None, Option, RawVault, Some, Store, TableRows, Window, WindowHead, ap, codes, damage_at, form_damage, head_damage, head_flaw, head_of, if_broken, is_stage, map, option_map}
use Rattle.dv_restore.proofs.Vocabulary.{option_to_list, raw_damage, refl, sealed_of, sealed_vault, snapshot_damage, stage_damage, stage_damage_by, stored_entries, sym, tables, true, vault_of, ℕ, ◌++◌, ◌∙◌, ◌≡◌}

pub head_first : (mapping : Mapping) (hashes : Hashes) (width : ℕ) (store : Store) (damage : Damage) → head_damage mapping store ≡ Some damage → form_damage mapping hashes width store ≡ Some damage
head_first mapping hashes width store damage e = rw e refl

-- ---- what is read of a store before its raw tables

module _ (mapping : Mapping) (hashes : Hashes) (width : ℕ) (store : Store) (heads : List WindowHead) (stage : Option Window) (windows : heads ≡ store.windows) (staged : stage ≡ store.stage) where
  pub heads_are : (known : List WindowHead) → known ≡ heads ++ map head_of (option_to_list stage) → store.windows ++ map head_of (option_to_list store.stage) ≡ known
  heads_are known is = (λ i. sym windows i ++ map head_of (option_to_list (sym staged i))) ∙ sym is

  module _ (clear : head_flaw mapping heads ≡ None) where
    head_none : head_damage mapping store ≡ None
    head_none = ap (λ heads. option_map (damage_at (codes "windows")) (head_flaw mapping heads)) (sym windows) ∙ ap (option_map (damage_at (codes "windows"))) clear

    pub stage_damaged : (damage : Damage) → stage_damage mapping store ≡ Some damage → form_damage mapping hashes width store ≡ Some damage
    stage_damaged damage e = rw (head_none, e) refl

  module _ (clear : head_flaw mapping heads ≡ None) (in_form : IfSome stage (λ window. is_stage mapping heads window ≡ true)) where
    stage_none : stage_damage mapping store ≡ None
    stage_none = (λ i. stage_damage_by (λ window. if_broken 3 (is_stage mapping (sym windows i) window)) (sym staged i)) ∙ by stage in_form
      where
        by : (stage : Option Window) → IfSome stage (λ window. is_stage mapping heads window ≡ true) → stage_damage_by (λ window. if_broken 3 (is_stage mapping heads window)) stage ≡ None
        by None is = refl
        by (Some window) is = ap (λ whole. option_map (λ rule. damage_at (codes "stage") (record { row = 1; rule = rule })) (if_broken 3 whole)) is

    pub rows_damaged : (damage : Damage) → raw_damage mapping hashes width store ≡ Some damage → form_damage mapping hashes width store ≡ Some damage
    rows_damaged damage e = rw (head_none clear, stage_none, e) refl

    -- behind rows that break no rule
    pub snapshots_damaged : raw_damage mapping hashes width store ≡ None → (damage : Damage) → snapshot_damage store ≡ Some damage → form_damage mapping hashes width store ≡ Some damage
    snapshots_damaged none damage e = rw (head_none clear, stage_none, none, e) refl

  -- ---- and with them

  module _ (entries : List TableRows) (read : entries ≡ stored_entries store (tables mapping)) where
    pub sealed_is : sealed_vault mapping heads stage entries ≡ sealed_of mapping store
    sealed_is = λ i. sealed_vault mapping (windows i) (staged i) (read i)

    pub goes_on : KeepsF15 hashes mapping store → MayGoOn hashes (vault_of mapping heads entries) stage
    goes_on keeps = rw (windows, staged, read) keeps

-- the open window that is begun
pub staged_is : (hashes : Hashes) (raw : RawVault) (stage : Option Window) (begun : Option Begun) → IsBegunAs hashes raw stage begun → option_map (λ (b : Begun). b.window) begun ≡ stage
staged_is hashes raw None None is = refl
staged_is hashes raw None (Some begun) is = absurd is
staged_is hashes raw (Some window) None is = absurd is
staged_is hashes raw (Some window) (Some begun) is = ap Some is.window_is

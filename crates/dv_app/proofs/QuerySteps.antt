-- What is said of a query, and what comes of a command that writes its text.
use Rattle.dv_app.proofs.Vocabulary.{DateEnds, DigestFunction, Does, Ending, Err, HasSealed, Hashes, Held, IfErr, IfOk, Init, IsAnswer, IsAnswered, IsOpen, IsTextFor, IsTextOf, KeptCommand, List, Load, Mapping, Mart, MartEnds, None, Ok, OpenedSays, Opening, Option, Places, QueryEnds, QueryRule}
use Rattle.dv_app.proofs.Vocabulary.{RawVault, Result, Resume, Snapshot, Some, Stands, StandsFor, State, Store, Stored, Table, TableEnds, TableId, TextEnds, Tried, What, Windows, Works, ap, arith, has_table, hashes_of, head_of, inl, mart_at, mart_for, mart_says, mart_text, offered_mart}
use Rattle.dv_app.proofs.Vocabulary.{option_map, option_to_list, refused_said, rows_in, rows_there, said_of, staged, stamp_of, subst, sym, table_for, table_named, table_text, tables, text_or, text_reply, true, windows_text, ℕ, ◌∙◌, ◌≡◌}
use Rattle.dv_app.proofs.{OpenSteps.Opens, OpenSteps.memory_left, OpenSteps.opened_kept, WorkSteps.does, WorkSteps.done_sound, WorkSteps.refused_does}
use Rattle.dv_given.specs.declared.endings.Ending.TheVariants as endings

-- what ends a query, by what more is said of the rule
pub query_ends_so : (P Q : QueryRule → Type 0) → ((rule : QueryRule) → P rule → Q rule) → (ending : Ending) → QueryEnds P ending → QueryEnds Q ending
query_ends_so P Q so (endings.BadQuery rule) broken = so rule broken
query_ends_so P Q so endings.Memory short = short
query_ends_so P Q so ending none = absurd none

-- ---- what comes of a command that is refused, or writes a text

module _ (command : KeptCommand) (opens : Opens command) (function : DigestFunction) (at : Places) (kept : at.folder.new ≡ at.folder.old) (same : at.folder.now ≡ at.folder.before) (office : Held)
    (opening : Opening function at.keeper (Ok office)) where
  refused_comes : (IsBroken : QueryRule → Type 0) → ((store : Store) → at.keeper.old ≡ Some store → (rule : QueryRule) → IsBroken rule → OpenedSays at (hashes_of function) command store office.vault.mapping (refused_said rule))
      → (ending : Ending) → QueryEnds IsBroken ending → Does command function at (said_of ending)
  refused_comes IsBroken so (endings.BadQuery rule) broken =
      refused_does command function at rule (opened_kept command opens function at office opening.opens (refused_said rule) (λ store e. so store e rule broken)) (inl opening.left)
  refused_comes IsBroken so endings.Memory short = memory_left command opens function at opening.left
  refused_comes IsBroken so ending none = absurd none

  pub refused_works : (IsBroken : QueryRule → Type 0) → ((store : Store) → at.keeper.old ≡ Some store → (rule : QueryRule) → IsBroken rule → OpenedSays at (hashes_of function) command store office.vault.mapping (refused_said rule))
      → (ending : Ending) → QueryEnds IsBroken ending → Works command function at (Err ending)
  refused_works IsBroken so ending ends = record {
    comes = (refused_comes IsBroken so ending ends, memory_left command opens function at opening.left);
    later = record { kept = kept; folder = omega (arith, same); keeper = opening.later };
  }

  answer_says : (store : Store) (said : Tried) → IsAnswer command office.vault.mapping function store said → OpenedSays at (hashes_of function) command store office.vault.mapping said
  answer_says store said is = by command is
    where
      by : (c : KeptCommand) → IsAnswer c office.vault.mapping function store said → OpenedSays at (hashes_of function) c store office.vault.mapping said
      by Init none = absurd none
      by (Load name) none = absurd none
      by Resume none = absurd none
      by (Mart what date) is = is
      by (Table name) is = is
      by Windows is = is
      by (Snapshot date) none = absurd none
      by (Stored table date) is = is

  pub text_does : (text : List ℕ) → ((store : Store) → at.keeper.old ≡ Some store → IsAnswer command office.vault.mapping function store (text_or (Ok text))) → Does command function at (text_or (Ok text))
  text_does text is = does command function at (text_or (Ok text))
      (opened_kept command opens function at office opening.opens (text_or (Ok text)) (λ store e. answer_says store (text_or (Ok text)) (is store e))) tt (inl opening.left) done_sound

  pub text_works : (text : Result (List ℕ) Ending) → IsAnswered command office text → Works command function at (text_reply text)
  text_works (Ok text) is = record {
    comes = text_does text (is function at.keeper.old opening.opens);
    later = record { kept = kept; folder = omega (arith, same); keeper = opening.later };
  }
  text_works (Err ending) is = refused_works _ (λ store e rule broken. answer_says store (refused_said rule) (broken function at.keeper.old opening.opens store e)) ending is

-- ---- marts

module _ (mapping : Mapping) (hashes : Hashes) (state : State) (word date : List ℕ) (what : What) (offered : offered_mart mapping word ≡ Some what) where
  pub mart_dated : (at : Option ℕ) → stamp_of date ≡ at → mart_at mapping hashes state what date at ≡ mart_says mapping hashes state word date
  mart_dated at dated = sym (ap (mart_for mapping hashes state word date) offered ∙ ap (mart_at mapping hashes state what date) dated)

module _ (office : Held) (word date : List ℕ) where
  pub mart_unknown : (ending : Ending) → MartEnds office.vault.mapping word ending → IsAnswered (Mart word date) office (Err ending)
  mart_unknown ending ends = query_ends_so _ _ (λ rule broken function told is_open store e state stands.
      ap refused_said broken.0 ∙ sym (ap (mart_for office.vault.mapping (hashes_of function) state word date) broken.1)) ending ends

  module _ (what : What) (offered : offered_mart office.vault.mapping word ≡ Some what) where
    pub mart_undated : (ending : Ending) → DateEnds date ending → IsAnswered (Mart word date) office (Err ending)
    mart_undated ending ends = query_ends_so _ _ (λ rule broken function told is_open store e state stands.
        ap refused_said broken.0 ∙ mart_dated office.vault.mapping (hashes_of function) state word date what offered None broken.1) ending ends

    module _ (at : ℕ) (dated : stamp_of date ≡ Some at) (raw : RawVault) (raw_is : raw ≡ office.vault) where
      -- what is said of the office's vault is said of the sealed windows of a state
      sealed_text : (r : Result (List ℕ) QueryRule) → IsTextFor raw what at r → (function : DigestFunction) (told : Option Store) → IsOpen function told office
          → (store : Store) → told ≡ Some store → (state : State) → Stands office.vault.mapping (hashes_of function) state store → text_or r ≡ mart_says office.vault.mapping (hashes_of function) state word date
      sealed_text r makes function told is_open store e state stands =
          let hashes = hashes_of function in
          let stood : StandsFor hashes state office = is_open.stands store e state stands in
          sym (ap text_or (ap (λ entries. mart_text office.vault.mapping hashes state.sealed entries what at) (sym stood.sealed_are.tables_are)
          ∙ subst (λ (v : RawVault). mart_text v.mapping hashes state.sealed v.tables what at ≡ r) raw_is (makes function state.sealed (subst (HasSealed hashes state.sealed) (sym raw_is) stood.sealed_are))))
          ∙ mart_dated office.vault.mapping hashes state word date what offered (Some at) dated

      pub mart_answered : (text : Result (List ℕ) Ending) → IfOk text (IsTextOf raw what at) → IfErr text (TextEnds raw what at) → IsAnswered (Mart word date) office text
      mart_answered (Ok text) is none = λ function told is_open store e state stands. sealed_text (Ok text) is function told is_open store e state stands
      mart_answered (Err ending) none ends = query_ends_so _ _ (λ rule broken function told is_open store e state stands. sealed_text (Err rule) broken function told is_open store e state stands) ending ends

-- ---- raw tables

module _ (office : Held) (name : List ℕ) where
  pub table_unknown : (ending : Ending) → TableEnds office.vault.mapping name ending → IsAnswered (Table name) office (Err ending)
  table_unknown ending ends = query_ends_so _ _ (λ rule broken function told is_open store e. ap refused_said broken.0 ∙ sym (ap (table_for office.vault.mapping store name) broken.1)) ending ends

  pub table_answered : (table : TableId) → table_named office.vault.mapping name ≡ Some table → has_table table (rows_there office.vault office.begun) ≡ true
      → (text : List ℕ) → text ≡ table_text office.vault.mapping table (rows_in table (rows_there office.vault office.begun)) → IsAnswered (Table name) office (Ok text)
  table_answered table named there text is = λ function told is_open store e.
      ap (λ t. text_or (Ok t)) (is ∙ ap (table_text office.vault.mapping table) (sym ((is_open.agrees store e).kept.tables_are table there))) ∙ sym (ap (table_for office.vault.mapping store name) named)

-- ---- windows

pub windows_answered : (office : Held) (text : List ℕ) → text ≡ windows_text office.vault.mapping office.vault.heads (option_to_list (option_map head_of (staged office))) → IsAnswered Windows office (Ok text)
windows_answered office text is = λ function told is_open store e. ap (λ t. text_or (Ok t)) (is
    ∙ ap (λ heads. windows_text office.vault.mapping heads (option_to_list (option_map head_of (staged office)))) (sym (is_open.agrees store e).kept.windows)
    ∙ ap (λ stage. windows_text office.vault.mapping store.windows (option_to_list (option_map head_of stage))) (sym (is_open.agrees store e).kept.stage))

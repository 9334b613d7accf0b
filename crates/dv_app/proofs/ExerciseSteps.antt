-- How the windows that are made are taken one after another, and what is counted behind them.
use Rattle.dv_app.proofs.Vocabulary.{HasKinds, HasSealed, HasTaken, Hashes, Held, IsReady, List, Mapping, RawVault, State, Taken, TookWindow, Window, WindowIn, ap, arith, beginning, counts_of, counts_text, exercised, generated_mapping, generated_window, kind_of, load_date, outcome, outcome_of}
use Rattle.dv_app.proofs.Vocabulary.{state_after, state_behind, subst, suc, sym, vault, ℕ, ◌+◌, ◌∙◌, ◌≡◌}

-- ---- the windows

-- the state behind one window more
next_state : (hashes : Hashes) (items window : ℕ)
    → state_after generated_mapping (generated_window items window) (outcome generated_mapping hashes (state_behind hashes items window) (generated_window items window)) (state_behind hashes items window)
    ≡ state_behind hashes items (window + 1)
unfolding state_behind
next_state hashes items window = let up : suc window ≡ window + 1 = omega arith in ap (state_behind hashes items) up

pub one_more : (hashes : Hashes) (items window : ℕ) (given : WindowIn) (held held' : Held) (came_of : Taken) → given ≡ generated_window items window
    → HasTaken hashes items window held → TookWindow hashes given held held' came_of → HasTaken hashes items (window + 1) held'
one_more hashes items window given held held' came_of is has took =
    let t = took (state_behind hashes items window) has.ready in
    let state = state_behind hashes items window in
    let same : state_after held.vault.mapping given (outcome_of came_of) state ≡ state_behind hashes items (window + 1) =
    ap (λ o. state_after held.vault.mapping given o state) (sym t.outcome_is)
    ∙ ap (λ (m : Mapping). state_after m given (outcome m hashes state given) state) has.mapping_is
    ∙ ap (λ (g : WindowIn). state_after generated_mapping g (outcome generated_mapping hashes state g) state) is
    ∙ next_state hashes items window in
    record { mapping_is = t.mapping_is ∙ has.mapping_is; ready = subst (λ (s : State). IsReady hashes s held') same t.ready }

-- no window is taken yet
pub none_yet : (hashes : Hashes) (items : ℕ) (held : Held) → held.vault.mapping ≡ generated_mapping → IsReady hashes beginning held → HasTaken hashes items 0 held
unfolding state_behind
none_yet hashes items held is ready = record { mapping_is = is; ready = ready }

-- ---- the counts

module _ (hashes : Hashes) (items windows : ℕ) (held : Held) (raw : RawVault) (raw_is : raw ≡ held.vault) (has : HasTaken hashes items windows held) where
  sealed_so : HasSealed hashes (state_behind hashes items windows).sealed raw
  sealed_so = subst (HasSealed hashes (state_behind hashes items windows).sealed) (sym raw_is) has.ready.stands.sealed_are

  pub kinds_so : HasKinds raw
  kinds_so table among = kind_of hashes (state_behind hashes items windows).sealed raw sealed_so table among

  pub counts_so : (date : ℕ) (text : List ℕ) → date ≡ load_date 3
      → ((hashes : Hashes) (sealed : List Window) → HasSealed hashes sealed raw → text ≡ counts_text raw.mapping sealed raw.tables date)
      → text ≡ counts_of hashes (state_behind hashes items windows)
  counts_so date text date_is text_is =
      let sealed = (state_behind hashes items windows).sealed in
      let mapping_is : raw.mapping ≡ generated_mapping = ap (λ (v : RawVault). v.mapping) raw_is ∙ has.mapping_is in
      text_is hashes sealed sealed_so
      ∙ ap (λ entries. counts_text raw.mapping sealed entries date) sealed_so.tables_are
      ∙ ap (λ (m : Mapping). counts_text m sealed (vault m hashes sealed) date) mapping_is
      ∙ ap (counts_text generated_mapping sealed (vault generated_mapping hashes sealed)) date_is

pub exercised_so : (hashes : Hashes) (items : ℕ) (text : List ℕ) → text ≡ counts_of hashes (state_behind hashes items 4) → text ≡ exercised hashes items
unfolding exercised
exercised_so hashes items text is = is

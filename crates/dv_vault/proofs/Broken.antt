-- A store whose keeper broke off to take a window.
use Rattle.dv_vault.proofs.Vocabulary.{Became, Begun, Bool, BreaksParts, BreaksWindow, BrokeOff, Changes, Err, HasLeft, HasRows, HasTaken, IfErr, IsBegunIn, IsLeftOf, IsOpen, KeeperError, List, MayBeLeft, None, Ok, Option, Part, Result, Some, Store, TableRows, TakesWindow, Told, TookRows}
use Rattle.dv_vault.proofs.Vocabulary.{TookSome, TookWindow, Untaken, Window, WindowHead, [], ap, arith, changed, false, head_of, inl, inr, length, refl, rows_in, same_Some, subst, sym, tables_there, tables_whole, taken_first, true, with_open, with_seal, with_stage, ◌++◌, ◌∙◌, ◌∷◌, ◌≡◌, ◌⊎◌}
use Rattle.dv_vault.proofs.{Parts.none_taken, Parts.taken_whole, StoreSteps.became_changed, StoreSteps.made_or_not, StoreSteps.unchanged}

-- an opening window is opening with the rows of tables
still_open : (window : Window) (entries : List TableRows) (was now : Store) → was.stage ≡ Some window → TookRows entries was now → IsOpen window entries was now
still_open window entries was now is_open has = record { tables_are = has.tables_are; others = has.others; stage_is = has.stage_is ∙ is_open; windows_are = has.windows_are; beside = has.beside }

pub opens_with : (window : Window) (entries : List TableRows) (before after : Option Store) → Told before (λ s. s.stage ≡ Some window) → Became (TookRows entries) before after → Became (IsOpen window entries) before after
opens_with window entries before after is_open took now e =
    let (was, at, has) = took now e in
    (was, at, still_open window entries was now (is_open was at) has)

pub sealed : (window : Window) (entries : List TableRows) (head : WindowHead) → head ≡ head_of window → (before mid after : Option Store) → Became (IsOpen window entries) before mid → after ≡ changed (with_seal head) mid → TakesWindow window entries before after
sealed window entries head is before mid after begun e =
    became_changed (with_seal head) (IsOpen window entries) (TookWindow window entries)
    (λ was now r. record { tables_are = r.tables_are; others = r.others; stage_is = refl; windows_are = ap (λ l. l ++ head ∷ []) r.windows_are ∙ ap (λ h. was.windows ++ h ∷ []) is; beside = r.beside })
    before mid after e begun

-- an error that is passed on
pub err_passed : {T U E : Type 0} (r : Result T E) (r' : Result U E) (P : E → Type 0) → ((e : E) → r' ≡ Err e → r ≡ Err e) → IfErr r P → IfErr r' P
err_passed r (Ok x) P same is = tt
err_passed r (Err e) P same is = subst (λ r. IfErr r P) (same e refl) is

-- what holds of an error, where there is one
pub of_error : {T E : Type 0} (r : Result T E) (P : E → Type 0) → ((error : E) → r ≡ Err error → P error) → IfErr r P
of_error (Ok x) P each = tt
of_error (Err e) P each = each e refl

module _ (entries : List TableRows) (begun : Begun) where
  abbrev window : Window
  window = begun.window

  abbrev parts : List Part
  parts = begun.parts.items

  abbrev BreaksOff : Option Store → Option Store → Type 0
  BreaksOff before after = Became (BrokeOff entries begun) before after

  pub not_begun : (before after : Option Store) → after ≡ before → BreaksOff before after
  not_begun before after same now e = (now, sym same ∙ e, inl refl)

  -- ---- an opening window

  -- the window is opening
  pub is_staged : (store : Option Store) → Told store (IsBegunIn true entries begun) → Told store (λ s. s.stage ≡ Some window)
  is_staged store told s e = (told s e).stage_is

  -- some first tables got what they lacked
  filling_broke : (before after : Option Store) → Told before (λ s. s.stage ≡ Some window) → Became (TookSome entries parts) before after → BreaksOff before after
  filling_broke before after is_open took now e =
      let (was, at, (k, within, has)) = took now e in
      (was, at, inr (inl (k, within, still_open window (tables_there entries (taken_first k parts)) was now (is_open was at) has)))

  pub appending_breaks : (left : Begun) → left.window ≡ window → left.rows ≡ begun.rows → left.weight ≡ begun.weight → (before after : Option Store) → Told before (λ s. s.stage ≡ Some window)
      → (error : KeeperError) → BreaksParts entries parts before after error left.parts.items → BreaksWindow true entries begun before after (record { error = error; begun = Some left })
  appending_breaks left same rows weight before after is_open error broken = record {
    broke = filling_broke before after is_open broken.some;
    left = record { window_is = same; rows_are = rows; weight_is = weight; taken = broken.taken; within = broken.within; parts_are = broken.left_are };
    exact = λ e. subst (λ w. Became (IsOpen w (tables_there entries left.parts.items)) before after) (sym same) (opens_with window (tables_there entries left.parts.items) before after is_open (broken.exact e));
  }

  -- all tables have all rows, and the window is opening or sealed
  sealing_broke : (head : WindowHead) → head ≡ head_of window → (before mid after : Option Store)
      → Became (IsOpen window (tables_whole entries parts)) before mid → (after ≡ mid) ⊎ (after ≡ changed (with_seal head) mid) → BreaksOff before after
  sealing_broke head is before mid after opening (inl same) = λ now e.
      let (was, at, is_open) = opening now (sym same ∙ e) in
      (was, at, inr (inl (length parts, omega arith, subst (λ tables. IsOpen window tables was now) (sym (taken_whole (length parts) entries parts (omega arith))) is_open)))
  sealing_broke head is before mid after opening (inr made) = λ now e.
      let (was, at, took) = sealed window (tables_whole entries parts) head is before mid after opening made now e in
      (was, at, inr (inr took))

  pub sealing_breaks : {T : Type 0} (left : Begun) → left.window ≡ window → left.rows ≡ begun.rows → left.weight ≡ begun.weight → left.parts.items ≡ taken_first (length parts) parts
      → (head : WindowHead) → head ≡ head_of window → (before mid after : Option Store)
      → Became (IsOpen window (tables_whole entries parts)) before mid → (r : Result T KeeperError) (error : KeeperError) → r ≡ Err error → Changes (with_seal head) mid after r
      → BreaksWindow true entries begun before after (record { error = error; begun = Some left })
  sealing_breaks left same rows weight all head is before mid after opening r error failed changes = record {
    broke = sealing_broke head is before mid after opening (made_or_not (with_seal head) mid after r changes);
    left = record { window_is = same; rows_are = rows; weight_is = weight; taken = length parts; within = omega arith; parts_are = all };
    exact = λ e now at.
        let (was, there, is_open) = opening now (sym (unchanged (with_seal head) mid after r (failed ∙ ap Err e) changes) ∙ at) in
        let tables : tables_whole entries parts ≡ tables_there entries left.parts.items = sym (taken_whole (length parts) entries parts (omega arith)) ∙ ap (tables_there entries) (sym all) in
        (was, there, subst (λ w. IsOpen w (tables_there entries left.parts.items) was now) (sym same) (subst (λ tables. IsOpen window tables was now) tables is_open));
  }

  -- ---- a window that is opened first

  -- what is kept of a store in which a window is opened
  opened_was : (before mid : Option Store) → mid ≡ changed (with_stage window) before → (was : Store) → mid ≡ Some was → (first : Store) × (before ≡ Some first) × (with_stage window first ≡ was)
  opened_was None mid is was e = cc
  opened_was (Some first) mid is was e = (first, refl, same_Some (with_stage window first) was (sym is ∙ e))

  -- what a store has taken, it has taken since before the window was opened
  since : (stage : Option Window) (more : List WindowHead) (tables : List TableRows) (was first now : Store) → with_stage window first ≡ was → HasTaken stage (was.windows ++ more) tables was now → HasTaken stage (first.windows ++ more) tables first now
  since stage more tables was first now staged has = record {
    tables_are = has.tables_are;
    others = λ table none. has.others table none ∙ ap (λ (s : Store). rows_in table s.tables) (sym staged);
    stage_is = has.stage_is;
    windows_are = has.windows_are ∙ ap (λ (s : Store). s.windows ++ more) (sym staged);
    beside = has.beside ∙ ap (λ (s : Store). record s { tables = []; stage = None; windows = [] }) (sym staged);
  }

  open_since : (tables : List TableRows) (was first now : Store) → with_stage window first ≡ was → IsOpen window tables was now → IsOpen window tables first now
  open_since tables was first now staged has = record {
    tables_are = has.tables_are;
    others = λ table none. has.others table none ∙ ap (λ (s : Store). rows_in table s.tables) (sym staged);
    stage_is = has.stage_is;
    windows_are = has.windows_are ∙ ap (λ (s : Store). s.windows) (sym staged);
    beside = has.beside ∙ ap (λ (s : Store). record s { tables = []; stage = None; windows = [] }) (sym staged);
  }

  -- the store in which it was opened
  just_opened : (before mid : Option Store) → Told before (IsBegunIn false entries begun) → mid ≡ changed (with_stage window) before → Became (IsOpen window (tables_there entries parts)) before mid
  just_opened before mid told is now e =
      let (first, there, staged) = opened_was before mid is now e in (
        first,
        there,
        record {
          tables_are = subst (λ s. HasRows s (tables_there entries parts)) staged (told first there).tables_are;
          others = λ table none. ap (λ (s : Store). rows_in table s.tables) (sym staged);
          stage_is = ap (λ (s : Store). s.stage) (sym staged);
          windows_are = ap (λ (s : Store). s.windows) (sym staged);
          beside = ap (λ (s : Store). record s { tables = []; stage = None; windows = [] }) (sym staged);
        },
      )

  pub opened_in_store : (before mid : Option Store) → Told before (IsBegunIn false entries begun) → mid ≡ changed (with_stage window) before → Told mid (IsBegunIn true entries begun)
  opened_in_store before mid told is s e =
      let (first, there, has) = just_opened before mid told is s e in
      record { stage_is = has.stage_is; tables_are = has.tables_are }

  opening_broke : (before after : Option Store) → Told before (IsBegunIn false entries begun) → (after ≡ before) ⊎ (after ≡ changed (with_stage window) before) → BreaksOff before after
  opening_broke before after told (inl same) = not_begun before after same
  opening_broke before after told (inr made) = λ now e.
      let (first, there, has) = just_opened before after told made now e in
      (first, there, inr (inl (0, omega arith, subst (λ parts. IsOpen window (tables_there entries parts) first now) (sym (none_taken parts)) has)))

  opened_takes : (before mid after : Option Store) → mid ≡ changed (with_stage window) before → TakesWindow window (tables_whole entries parts) mid after → TakesWindow window (tables_whole entries parts) before after
  opened_takes before mid after is takes now e =
      let (was, at, took) = takes now e in
      let (first, there, staged) = opened_was before mid is was at in
      (first, there, since None (head_of window ∷ []) (tables_whole entries parts) was first now staged took)

  opened_breaks : (before mid after : Option Store) → Told before (IsBegunIn false entries begun) → mid ≡ changed (with_stage window) before → BreaksOff mid after → BreaksOff before after
  opened_breaks before mid after told is breaks now e =
      let (was, at, broke) = breaks now e in
      let (first, there, staged) = opened_was before mid is was at in
      by was first there staged broke
    where
      by : (was first : Store) → before ≡ Some first → with_stage window first ≡ was → BrokeOff entries begun was now → (first : Store) × (before ≡ Some first) × BrokeOff entries begun first now
      by was first there staged (inl same) = opening_broke before (Some now) told (inr (ap Some (same ∙ sym staged) ∙ ap (changed (with_stage window)) (sym there))) now refl
      by was first there staged (inr (inl (k, within, is_open))) = (first, there, inr (inl (k, within, open_since (tables_there entries (taken_first k parts)) was first now staged is_open)))
      by was first there staged (inr (inr took)) = (first, there, inr (inr (since None (head_of window ∷ []) (tables_whole entries parts) was first now staged took)))

  -- ---- a window that is opening, or is opened first

  pub then_begun : (is_open : Bool) (before mid : Option Store) → Told before (IsBegunIn is_open entries begun) → mid ≡ changed (with_open is_open window) before → Told mid (IsBegunIn true entries begun)
  then_begun true before mid told is s e = told s (same before mid is ∙ e)
    where
      same : (before mid : Option Store) → mid ≡ changed (with_open true window) before → before ≡ mid
      same None mid is = sym is
      same (Some s) mid is = sym is
  then_begun false before mid told is s e = opened_in_store before mid told (by before mid is) s e
    where
      by : (before mid : Option Store) → mid ≡ changed (with_open false window) before → mid ≡ changed (with_stage window) before
      by None mid is = is
      by (Some s) mid is = is

  pub then_takes : (is_open : Bool) (before mid after : Option Store) → mid ≡ changed (with_open is_open window) before → TakesWindow window (tables_whole entries parts) mid after → TakesWindow window (tables_whole entries parts) before after
  then_takes true None mid after is = subst (λ mid. TakesWindow window (tables_whole entries parts) mid after) is
  then_takes true (Some s) mid after is = subst (λ mid. TakesWindow window (tables_whole entries parts) mid after) is
  then_takes false None mid after is = opened_takes None mid after is
  then_takes false (Some s) mid after is = opened_takes (Some s) mid after is

  pub then_breaks : (is_open : Bool) (left : Begun) (error : KeeperError) (before mid after : Option Store) → Told before (IsBegunIn is_open entries begun) → mid ≡ changed (with_open is_open window) before
      → BreaksWindow true entries begun mid after (record { error = error; begun = Some left }) → BreaksWindow is_open entries begun before after (record { error = error; begun = Some left })
  then_breaks true left error None mid after told is broken = subst (λ mid. BreaksWindow true entries begun mid after (record { error = error; begun = Some left })) is broken
  then_breaks true left error (Some s) mid after told is broken = subst (λ mid. BreaksWindow true entries begun mid after (record { error = error; begun = Some left })) is broken
  then_breaks false left error before mid after told is broken = record {
    broke = opened_breaks before mid after told (by before mid is) broken.broke;
    left = broken.left;
    exact = λ e now at.
        let (was, there, is_open) = broken.exact e now at in
        let (first, before_is, staged) = opened_was before mid (by before mid is) was there in (
          first,
          before_is,
          subst (λ w. IsOpen w (tables_there entries left.parts.items) first now) (sym broken.left.window_is)
              (open_since (tables_there entries left.parts.items) was first now staged (subst (λ w. IsOpen w (tables_there entries left.parts.items) was now) broken.left.window_is is_open)),
        );
  }
    where
      by : (before mid : Option Store) → mid ≡ changed (with_open false window) before → mid ≡ changed (with_stage window) before
      by None mid is = is
      by (Some s) mid is = is

  -- ---- nothing was done

  left_itself : IsLeftOf begun begun
  left_itself = record { window_is = refl; rows_are = refl; weight_is = refl; taken = 0; within = omega arith; parts_are = sym (none_taken parts) }

  pub nothing_breaks : (is_open : Bool) (untaken : Untaken) (store : Option Store) → (is_open ≡ true → untaken.begun ≡ Some begun) → (is_open ≡ false → untaken.begun ≡ None) → Told store (IsBegunIn is_open entries begun)
      → BreaksWindow is_open entries begun store store untaken
  nothing_breaks true untaken store opening closed told = record {
    broke = not_begun store store refl;
    left = subst (MayBeLeft true begun) (sym (opening refl)) left_itself;
    exact = λ e. subst (λ left. Became (HasLeft entries left) store store) (sym (opening refl)) (λ now at.
        let has = told now at in
        (now, at, record { tables_are = has.tables_are; others = λ table none. refl; stage_is = has.stage_is; windows_are = refl; beside = refl }));
  }
  nothing_breaks false untaken store opening closed told = record {
    broke = not_begun store store refl;
    left = subst (MayBeLeft false begun) (sym (closed refl)) refl;
    exact = λ e. subst (λ left. Became (HasLeft entries left) store store) (sym (closed refl)) (λ now at. (now, at, refl));
  }

  -- the window was not opened, or was
  pub opening_breaks : {T : Type 0} (is_open : Bool) → is_open ≡ false → (untaken : Untaken) (before after : Option Store) → (is_open ≡ false → untaken.begun ≡ None) → Told before (IsBegunIn is_open entries begun)
      → (r : Result T KeeperError) (error : KeeperError) → r ≡ Err error → untaken.error ≡ error → Changes (with_open is_open window) before after r → BreaksWindow is_open entries begun before after untaken
  opening_breaks true never untaken before after closed told r error failed same changes = cc
  opening_breaks false is untaken before after closed told r error failed same changes = record {
    broke = opening_broke before after told (either before after (made_or_not (with_open false window) before after r changes));
    left = subst (MayBeLeft false begun) (sym (closed refl)) refl;
    exact = λ e. subst (λ left. Became (HasLeft entries left) before after) (sym (closed refl)) (λ now at.
        (now, sym (unchanged (with_open false window) before after r (failed ∙ ap Err (sym same ∙ e)) changes) ∙ at, refl));
  }
    where
      either : (before after : Option Store) → (after ≡ before) ⊎ (after ≡ changed (with_open false window) before) → (after ≡ before) ⊎ (after ≡ changed (with_stage window) before)
      either before after (inl same) = inl same
      either None after (inr made) = inr made
      either (Some s) after (inr made) = inr made

-- How a manifest that is taken leads the run.
use Rattle.dv_app.proofs.Vocabulary.{Arrived, Arrives, Brings, Ending, Err, Goes, GotPrefix, Hashes, List, Loading, Mapping, NamedFile, Ok, Progress, Rose, Seen, Told, TookLine, Unwritten, after, arrival, arrival_of, inl, inr, refl, step, ℕ, ◌∙◌, ◌≡◌}
use Rattle.dv_app.proofs.WindowSteps.{whole_step}

module _ (hashes : Hashes) (name : List ℕ) (loading loading' : Loading) (folder : Seen (List NamedFile)) (err : Seen (List ℕ)) where
  -- it could not be brought
  pub unbrought : (ending : Ending) → err.new ≡ err.old → Arrives name folder (Err ending) → Goes hashes name loading loading' folder err (Err ending)
  unbrought ending quiet arrives mapping p loaded = inl (record { quiet = quiet; cause = arrives.cause; ends = arrives.ends })

  module _ (came : Arrived) (arrives : Arrives name folder (Ok came)) where
    module _ (line : List ℕ) (took : TookLine hashes name (arrival_of came) loading loading' line) where
      step_so : (mapping : Mapping) (p next : Progress) → ((files : List NamedFile) → Brings (arrival files name) came → step mapping hashes files name p ≡ Ok next)
          → Told folder.old (λ files. step mapping hashes files name p ≡ Ok next)
      step_so mapping p next so files told = so files (arrives.ok files told)

      -- its line is written
      pub line_went : err.new ≡ after err.old line → Goes hashes name loading loading' folder err (Ok tt)
      line_went wrote mapping p loaded =
          let takes = took mapping p loaded in
          record {
            next = takes.next;
            step_is = step_so mapping p takes.next (λ files brings. whole_step mapping hashes name p (arrival files name) came brings ∙ takes.step_is);
            loaded_is = takes.loaded_is;
            line = line;
            lines_are = takes.lines_are;
            said_is = wrote;
          }

      -- or a front of it is
      pub line_cut : Rose err.before err.now → GotPrefix err.old err.new line → Goes hashes name loading loading' folder err (Err Unwritten)
      line_cut rose got mapping p loaded =
          let takes = took mapping p loaded in
          inr (record {
            unwritten = refl;
            rose = rose;
            next = takes.next;
            step_is = step_so mapping p takes.next (λ files brings. whole_step mapping hashes name p (arrival files name) came brings ∙ takes.step_is);
            line = line;
            lines_are = takes.lines_are;
            got = got;
          })

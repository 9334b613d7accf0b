-- What an outline without a fault keeps to, number by number.
use Rattle.dv_checks.proofs.Vocabulary.{AllNone, Bool, List, None, Outline, Some, all_none, false, find, first_of, has_name_form, length, list_any, map, most_columns, most_feeds, most_hubs, most_ignored, most_links, most_paths, most_references, most_steps, nat_lt, none_before_map, not, refl}
use Rattle.dv_checks.proofs.Vocabulary.{true, ℕ, ◌&&◌, ◌==◌, ◌≡◌}
use Rattle.dv_catalog.specs.Checks as spec

-- no number holds
pub record Faultless (outline : Outline) : Type 0 where
  pub again : AllNone (spec.again_by_kind outline)
  pub hubs_known : find (λ name. not (spec.is_hub outline name)) (spec.named_hubs outline) ≡ None
  pub links_known : find (λ name. not (spec.is_link outline name)) (spec.named_links outline) ≡ None
  pub keys : find (λ feed. not (spec.keys_fit outline feed)) outline.feeds ≡ None
  pub references : find (λ link. nat_lt (length link.hubs) 2) outline.links ≡ None
  pub columns : first_of (map spec.column_again outline.feeds) ≡ None
  pub sub : find (λ feed. not (length feed.sub == 0) && (length feed.attrs == 0)) outline.feeds ≡ None
  pub driver : find (λ feed. not (length feed.driver == 0) && not (spec.driver_in_link outline.links feed.parent feed.driver)) outline.feeds ≡ None
  pub driver_sub : find (λ feed. not (length feed.driver == 0) && not (length feed.sub == 0)) outline.feeds ≡ None
  pub paths : find (λ path. not (spec.is_path outline path)) outline.paths ≡ None
  pub over : spec.first_over outline ≡ None
  pub names : find (λ name. not (has_name_form name)) (spec.all_names outline) ≡ None

pub faultless : (outline : Outline) → spec.fault_of outline ≡ None → Faultless outline
faultless o e =
    let (p3, (p4, (p5, (p6, (p7, (p8, (p9, (p10, (p11, (p12, (p13, (p14, end)))))))))))) = all_none (spec.faults o) e in
    record {
      again = all_none (spec.again_by_kind o) (none_before_map _ _ p3);
      hubs_known = none_before_map _ _ p4;
      links_known = none_before_map _ _ p5;
      keys = none_before_map _ _ p6;
      references = none_before_map _ _ p7;
      columns = p8;
      sub = none_before_map _ _ p9;
      driver = none_before_map _ _ p10;
      driver_sub = none_before_map _ _ p11;
      paths = none_before_map _ _ p12;
      over = none_before_map _ _ p13;
      names = none_before_map _ _ p14;
    }

-- a limit that is kept
kept : (over : Bool) (kind : List ℕ) → spec.kind_if over kind ≡ None → over ≡ false
kept true kind e = let no : Some kind ≡ None = e in cc
kept false kind e = refl

-- each limit is kept
pub record KeepsLimits (outline : Outline) : Type 0 where
  pub hubs : nat_lt most_hubs (length outline.hubs) ≡ false
  pub links : nat_lt most_links (length outline.links) ≡ false
  pub feeds : nat_lt most_feeds (length outline.feeds) ≡ false
  pub paths : nat_lt most_paths (length outline.paths) ≡ false
  pub references : list_any (λ link. nat_lt most_references (length link.hubs)) outline.links ≡ false
  pub columns : list_any (λ feed. nat_lt most_columns (spec.mapped_count feed.keys feed.sub feed.attrs)) outline.feeds ≡ false
  pub ignored : list_any (λ feed. nat_lt most_ignored (length feed.ignore)) outline.feeds ≡ false
  pub steps : list_any (λ path. nat_lt most_steps (length path.feeds)) outline.paths ≡ false

pub keeps_limits : (outline : Outline) → spec.first_over outline ≡ None → KeepsLimits outline
keeps_limits o e =
    let (p1, (p2, (p3, (p4, (p5, (p6, (p7, (p8, end)))))))) = all_none (spec.over_limits o) e in
    record {
      hubs = kept _ _ p1;
      links = kept _ _ p2;
      feeds = kept _ _ p3;
      paths = kept _ _ p4;
      references = kept _ _ p5;
      columns = kept _ _ p6;
      ignored = kept _ _ p7;
      steps = kept _ _ p8;
    }

-- Rules as they are printed.
use Rattle.std.specs.Prelude.{◌≡◌, [], ◌∷◌, Some, None, codes}
use Rattle.dv_catalog.specs.declared.rules.Rule.TheVariants as rule
use Rattle.dv_catalog.specs.RuleTexts.{rule_text}
use Rattle.dv_print.specs.declared.query_rules.QueryRule.TheVariants as query
use Rattle.dv_print.specs.QueryTexts.{query_text}
use Rattle.dv_shown.specs.Answered.{site}
use Rattle.dv_shown.specs.Words.{day, key}

-- the rules that windows break
pub record RulesPrinted : Type 0 where
  pub manifest : rule_text (rule.Manifest (codes "load_date")) ≡ codes "W0 Manifest place=load_date"
  pub no_extracts : rule_text rule.NoExtracts ≡ codes "W1 NoExtracts"
  pub unknown_feed : rule_text (rule.UnknownFeed (codes "clients")) ≡ codes "W2 UnknownFeed name=clients"
  pub feed_twice : rule_text (rule.FeedTwice (codes "customers")) ≡ codes "W3 FeedTwice feed=customers"
  pub late : rule_text (rule.Late (day 1)) ≡ codes "W4 Late last=2024-03-01T02:00:00"
  pub open_other : rule_text (rule.OpenOther (day 1)) ≡ codes "W5 OpenOther load=2024-03-01T02:00:00"
  pub too_long : rule_text (rule.TooLong (codes "customers")) ≡ codes "W6 TooLong feed=customers"
  pub no_header : rule_text (rule.NoHeader (codes "customers")) ≡ codes "W7 NoHeader feed=customers"
  pub header_not_utf8 : rule_text (rule.HeaderNotUtf8 (codes "customers")) ≡ codes "W8 HeaderNotUtf8 feed=customers"
  pub column_twice : rule_text (rule.ColumnTwice (codes "customers") (codes "NAME")) ≡ codes "W9 ColumnTwice feed=customers name=NAME"
  pub unmapped_column : rule_text (rule.UnmappedColumn (codes "customers") (codes "NOTES")) ≡ codes "W10 UnmappedColumn feed=customers name=NOTES"
  pub missing_column : rule_text (rule.MissingColumn (codes "customers") (codes "NAME")) ≡ codes "W11 MissingColumn feed=customers name=NAME"
  pub ragged : rule_text (rule.Ragged (codes "customers") 2) ≡ codes "W12 Ragged feed=customers row_no=2"
  pub not_utf8 : rule_text (rule.NotUtf8 (codes "customers") 3) ≡ codes "W13 NotUtf8 feed=customers row_no=3"
  pub field_long : rule_text (rule.FieldLong (codes "customers") 10) ≡ codes "W14 FieldLong feed=customers row_no=10"
  pub empty_key : rule_text (rule.EmptyKey (codes "customers") 1) ≡ codes "W15 EmptyKey feed=customers row_no=1"
  pub two_rows : rule_text (rule.TwoRows (codes "customers") 1 2) ≡ codes "W16 TwoRows feed=customers earlier=1 later=2"
  pub too_many_rows : rule_text (rule.TooManyRows (codes "customers") 200001) ≡ codes "W17 TooManyRows feed=customers row_no=200001"
  pub two_drivers : rule_text (rule.TwoDrivers (codes "assignments") (key (codes "1") ∷ [])) ≡ codes "W18 TwoDrivers feed=assignments driver=[1]"
  pub both_drivers : rule_text (rule.TwoDrivers (codes "assignments") (key (codes "1") ∷ key (codes "P") ∷ [])) ≡ codes "W18 TwoDrivers feed=assignments driver=[1]/[P]"
  pub differs : rule_text (rule.Differs (day 1)) ≡ codes "W19 Differs load=2024-03-01T02:00:00"
  pub collision :
      rule_text (rule.Collision (codes "hub_site") (site (codes "A") (codes "B;C") ∷ []) (site (codes "A;B") (codes "C") ∷ []))
      ≡ codes "W20 Collision table=hub_site first=[A][B;C] second=[A;B][C]"
  pub vault_full : rule_text (rule.VaultFull 0 10000) ≡ codes "W21 VaultFull weight=0 windows=10000"
  pub missing_keys :
      rule_text (rule.Collision (codes "link_works") (key [] ∷ key [] ∷ []) (key (codes "1") ∷ key (codes "P") ∷ []))
      ≡ codes "W20 Collision table=link_works first=[]/[] second=[1]/[P]"
  pub weighed : rule_text (rule.VaultFull 1073741825 12) ≡ codes "W21 VaultFull weight=1073741825 windows=12"
  -- a control byte is a question mark
  pub control_bytes_of_key : rule_text (rule.TwoDrivers (codes "assignments") (key (codes "1\t2") ∷ [])) ≡ codes "W18 TwoDrivers feed=assignments driver=[1?2]"
  pub control_bytes : rule_text (rule.UnknownFeed (codes "a\nb")) ≡ codes "W2 UnknownFeed name=a?b"

-- the rules that queries break
pub record QueriesPrinted : Type 0 where
  pub unknown_mart : query_text (query.UnknownMart (codes "feed:clients")) ≡ codes "Q1 UnknownMart name=feed:clients"
  pub bad_date : query_text (query.BadDate (codes "2024-02-30T00:00:00")) ≡ codes "Q2 BadDate text=2024-02-30T00:00:00"
  pub too_large : query_text (query.TooLarge (codes "sold")) ≡ codes "Q3 TooLarge path=sold"
  pub future : query_text (query.Future (Some (day 1))) ≡ codes "Q4 Future last=2024-03-01T02:00:00"
  pub no_snapshot : query_text (query.NoSnapshot (day 1)) ≡ codes "Q5 NoSnapshot date=2024-03-01T02:00:00"
  pub no_future : query_text (query.Future None) ≡ codes "Q4 Future last=none"
  pub unknown_table : query_text (query.UnknownTable (codes "hub_client")) ≡ codes "Q6 UnknownTable name=hub_client"
  pub snapshots_full : query_text (query.SnapshotsFull 268435457) ≡ codes "Q7 SnapshotsFull weight=268435457"
  pub nothing_open : query_text query.NothingOpen ≡ codes "Q8 NothingOpen"

use Rattle.dv_print.proofs.Vocabulary.{feed_name, slice_get, ◌∙◌}
use Rattle.dv_print.proofs.JoinedNames.{all_spaced}
use Rattle.dv_print.proofs.windows_texts.joined_names.Goals as goal

pub returns : goal.returns
returns c =
    all_spaced (λ feed. feed_name (slice_get c.args.catalog.now.feeds feed)) c.args.feeds.now c.in-Some.rest.now c.in-Some.first.now _ _
    c.in-Some.ensures.cases.0
    (c.in_ok-names.ensures.items ∙ c.name_of_feed.ensures)
    c.in_ok-push_names.ensures

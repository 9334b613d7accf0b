use Rattle.dv_given.proofs.Vocabulary.{ap, err_from_is_err_and, given, most_mapping_bytes, sym, ◌+◌, ◌∙◌}
use Rattle.dv_given.proofs.{MappingSteps.mapping_cause, MappingSteps.mapping_read, MappingSteps.mapping_refused, MappingSteps.mapping_unread, ReadSteps.reads_by_cause, ReadSteps.reads_ended, ReadSteps.reads_made}
use Rattle.dv_given.proofs.mapping_files.read_mapping_file.Goals as goal

pub returns-in_err-bytes-clause-file : goal.returns-in_err-bytes-clause-file
returns-in_err-bytes-clause-file g c =
    let p = err_from_is_err_and c.from_residual-in_err-bytes.result c.from_residual-in_err-bytes.ensures.1 in
    rw (p.1, p.2) (reads_by_cause (λ files ending ends. mapping_unread files _ c.in_ok-name.ensures ending ends) _ _ c.in_err-bytes.ensures)

pub returns-in-Ok-clause-file : goal.returns-in-Ok-clause-file
returns-in-Ok-clause-file g c = reads_made _ _ _
    (λ files there. (
      mapping_read files _ c.in_ok-name.ensures _ _ there _ c.items.ensures c.in-Ok.ensures.ok,
      ap (given (most_mapping_bytes + 1) files) (sym c.in_ok-name.ensures) ∙ there,
    ))
    c.in_ok-bytes.ensures

pub returns-clause-file : goal.returns-clause-file
returns-clause-file g c = reads_ended _ _ _ (mapping_cause _ _ _ _ c.end_mapping.ensures)
    (λ files there. mapping_refused files _ c.in_ok-name.ensures c.in-Err.e (λ other. mapping_read files _ c.in_ok-name.ensures _ _ there _ c.items.ensures (c.in-Err.ensures.err other)) _ c.end_mapping.ensures)
    c.in_ok-bytes.ensures

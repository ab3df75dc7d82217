use Rattle.doc_model.proofs.JobLaws.{laws_of_jobs}
use Rattle.doc_model.proofs.laws.job_laws.Goals as goal

pub returns : goal.returns
returns c = laws_of_jobs

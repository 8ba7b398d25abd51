-- That `jobs_stay` ensures what it says.
use Rattle.cache_manager.proofs.JobFacts.{job_stays_on}
use Rattle.cache_manager.proofs.laws.jobs_stay.Goals as goal

pub returns : goal.returns
returns c = job_stays_on

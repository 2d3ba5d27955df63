pub mod Export
pub mod ExportLaws
pub mod TreeExport
pub mod TreeExportLaws
pub mod WhyExport
pub mod WhyExportLaws
pub mod PlainExport
pub mod PlainExportLaws
